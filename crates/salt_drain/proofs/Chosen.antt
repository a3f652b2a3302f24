-- What is chosen: the one, or where that is nothing the other.
use Rattle.salt_books.specs.Asking.{IsAsked}
use Rattle.salt_books.specs.Coming.{CommitsAtEnd}
use Rattle.salt_books.specs.Ends.{done_of}
use Rattle.salt_books.specs.declared.asking.Asking.{Asking}
use Rattle.law_states.specs.Follows.{cut_in, cuts_or_drains_in, drains_in, unfinished_in}
use Rattle.law_states.specs.OpenUnits.{UnitState}
use Rattle.law_states.specs.Told.{begins_in, commits_in, finishes_in, serve_in}
use Rattle.salt_model.specs.Kept.{cont_of}
use Rattle.salt_model.specs.Words.{first_of_list, is_empty}
use Rattle.salt_model.specs.declared.events.Cause.{Cause}
use Rattle.salt_model.specs.declared.events.End.TheVariants.{Cut}
use Rattle.salt_model.specs.declared.events.Event.TheVariants.{Early, Ended, Finished, Ready}
use Rattle.salt_model.specs.declared.events.UnitKind.TheVariants.{Later}
use Rattle.salt_drain.proofs.Asked.{asked-alike, serves-asked, unlined}
use Rattle.salt_books.proofs.Named.{done-branched}
use Rattle.salt_drain.specs.Follows.{rest_in}
use Rattle.salt_drain.specs.Recovering.{IsPartIfOpen, IsPlain, IsRecovering}
use Rattle.salt_values.specs.Id.{in_order}
use Rattle.salt_values.specs.declared.cont.Cont.{Cont}
use Rattle.salt_values.specs.declared.id.Id.{Id}
use Rattle.std.proofs.Common.{Bor, arith}
use Rattle.std.specs.Bool.{then_some}
use Rattle.std.specs.Option.{option_copied}
use Rattle.std.specs.Prelude.{Bool, List, [], false, is_none, length, map, option_and_then, ℕ, ◌<◌, ◌∷◌, ◌≤◌}
use Rattle.salt_books.specs.declared.coming.Coming.TheVariants as coming
use Rattle.salt_books.specs.declared.coming.Coming.{Coming}
use Rattle.law_states.specs.OpenUnits.{OpenUnit, unit_named}
use Rattle.law_states.specs.States.{State}
use Rattle.salt_model.specs.declared.events.Event.{Event}
use Rattle.salt_drain.specs.Recovering.{AnswersWithComing, AnswersWith, StandsForState}
use Rattle.salt_drain.specs.declared.recovery.Recovery.{Recovery}
use Rattle.std.proofs.Common.{ap, subst, sym, ◌∙◌}
use Rattle.std.specs.Prelude.{IsSome, None, Option, Some, is_some, option_map, refl, true, ◌≡◌}

-- an event for which nothing is asked is given
pub told : (s : State) (want : Option Event) (x : Recovery) (e : Event) → IsPlain want → AnswersWith s want x (Some e) → AnswersWithComing s want x (coming.Told e)
told s want x e plain h = record { meant = h.told; ready = (h.done, subst IsPlain (sym h.told) plain) }

pub rest-plain : (s : UnitState) → IsPlain (rest_in s)
rest-plain s = by (cut_in s)
  where
    unfinished : (early : Bool) (c : Cont) (cs : List Cont) → IsPlain (Some (unfinished_in early s c cs))
    unfinished true c cs = (refl, refl)
    unfinished false c cs = (refl, refl)

    drains : (b : Bool) (cs : List Cont) → IsPlain (then_some b (drains_in s cs))
    drains true [] = (refl, refl)
    drains true (c ∷ cs) = unfinished s.early c cs
    drains false cs = (refl, refl)

    by : (us : List Id) → IsPlain (cuts_or_drains_in s us)
    by (u ∷ us) = (refl, refl)
    by [] = drains (is_empty s.units) s.kept.conts

pub finish-plain : (s : UnitState) (b : Id) → IsPlain (finishes_in s b)
finish-plain s b = by (is_none (cont_of b s.kept))
  where
    by : (t : Bool) → IsPlain (then_some t (Finished b))
    by true = (refl, refl)
    by false = (refl, refl)

pub nothing : (s : State) (want : Option Event) (x : Recovery) → want ≡ None → StandsForState x s → AnswersWithComing s want x coming.Nothing
nothing s want x e h = record { meant = sym e; ready = (h, tt) }

pub gives-same : (s : State) (other want given : Option Event) (x : Recovery) → other ≡ want → AnswersWith s other x given → AnswersWith s want x given
gives-same s other want given x e h = record { told = h.told ∙ e; done = h.done }

-- CUTS AND PROGRAMS, by the first of each.

-- the first of these
pub record IsFirst (c : Cont) (cs : List Cont) : Type 0 where
  pub others : List Cont
  pub all : cs ≡ c ∷ others

pub first-of : (c : Cont) (cs : List Cont) → Some c ≡ first_of_list cs → IsFirst c cs
first-of c [] h = absurd (cc)
first-of c (d ∷ cs) h = let same : c ≡ d = cc in record { others = cs; all = ap (λ (x : Cont). x ∷ cs) (sym same) }

pub drains-first : (s : UnitState) (c : Cont) (cs others : List Cont) → cs ≡ c ∷ others → Some (unfinished_in s.early s c others) ≡ Some (drains_in s cs)
drains-first s c cs others all = ap (λ (ds : List Cont). Some (drains_in s ds)) (sym all)

-- an opening that may be early names the unfinished programs; else the first of them goes on

pub names-all : (s : UnitState) (c : Cont) (cs : List Cont) → s.kept.conts ≡ c ∷ cs → s.early ≡ true →
    Some (Early (in_order (map (λ (d : Cont). d.base) s.kept.conts))) ≡ Some (unfinished_in s.early s c cs)
names-all s c cs all early =
    ap (λ (ds : List Cont). Some (Early (in_order (map (λ (d : Cont). d.base) ds)))) all ∙ sym (ap (λ t. Some (unfinished_in t s c cs)) early)

pub begins-first : (s : UnitState) (c : Cont) (cs : List Cont) (b : Id) (part : ℕ) → c.base ≡ b → c.next ≡ part → s.early ≡ false →
    Some (begins_in s (Later b part)) ≡ Some (unfinished_in s.early s c cs)
begins-first s c cs b part base next early =
    (λ i. Some (begins_in s (Later (sym base i) (sym next i)))) ∙ sym (ap (λ t. Some (unfinished_in t s c cs)) early)

pub drains-none : (s : UnitState) (cs : List Cont) → first_of_list cs ≡ None → Some Ready ≡ Some (drains_in s cs)
drains-none s [] h = refl
drains-none s (c ∷ cs) h = cc

pub cuts-first : (s : UnitState) (u : Id) (us : List Id) → Some u ≡ first_of_list us → Some (Ended u Cut) ≡ cuts_or_drains_in s us
cuts-first s u [] h = cc
cuts-first s u (v ∷ us) h = let same : u ≡ v = cc in ap (λ w. Some (Ended w Cut)) same

pub cuts-wait : (s : UnitState) (us : List Id) → first_of_list us ≡ None → 0 < length s.units → cuts_or_drains_in s us ≡ None
cuts-wait s (v ∷ us) h l = cc
cuts-wait s [] h l = by s.units l
  where
    by : (os : List OpenUnit) → 0 < length os → then_some (is_empty os) (drains_in s s.kept.conts) ≡ None
    by [] l = absurd (omega arith)
    by (o ∷ os) l = refl

pub none-open : (os : List OpenUnit) → length os ≤ 0 → os ≡ []
none-open [] l = refl
none-open (o ∷ os) l = absurd (omega arith)

pub cuts-drain : (s : UnitState) (us : List Id) → first_of_list us ≡ None → s.units ≡ [] → Some (drains_in s s.kept.conts) ≡ cuts_or_drains_in s us
cuts-drain s (v ∷ us) h none = cc
cuts-drain s [] h none = sym (ap (λ (os : List OpenUnit). then_some (is_empty os) (drains_in s s.kept.conts)) none)

-- WHAT FOLLOWS.

pub serve-brings : (s : State) (u : Id) (found : Option Asking) (a : Asking) (x : Recovery) → found ≡ Some a → StandsForState x s → IsRecovering s → IsPartIfOpen s.units u →
    IsAsked (unlined s.units) u found → AnswersWithComing s (option_and_then (serve_in s.units) (unit_named u s.units.units)) x (coming.Act a)
serve-brings s u found a x is stands r parts asked =
    let at : IsAsked (unlined s.units) u (Some a) = subst (λ (f : Option Asking). IsAsked (unlined s.units) u f) is asked in
    let it = asked-alike s u a r parts at in
    record {
      meant = serves-asked s.units a it.0 it.1 ∙ ap (λ v. option_and_then (serve_in s.units) (unit_named v s.units.units)) at.0;
      ready = (stands, it);
    }

pub fail-brings : (s : State) (u b : Id) (part : ℕ) (o : OpenUnit) (cause : Cause) (x : Recovery) → StandsForState x s → unit_named u s.units.units ≡ Some o →
    o.kind ≡ Later b part → AnswersWithComing s (done_of s.units (Some cause) (unit_named u s.units.units)) x (coming.Branch u b cause)
fail-brings s u b part o cause x stands named kind = record {
  meant = sym (done-branched s.units u b part o cause named kind);
  ready = (stands, record { unit = o; part = part; named = named; kind = kind });
}

pub end-brings : (s : State) (u : Id) (x : Recovery) (c : Coming) → StandsForState x s → CommitsAtEnd s.units u c → AnswersWithComing s (done_of s.units None (unit_named u s.units.units)) x c
end-brings s u x coming.Nothing stands none = record { meant = sym none; ready = (stands, tt) }
end-brings s u x (coming.Commit v) stands end = record {
  meant = ap (λ w. option_map (commits_in s.units) (unit_named w s.units.units)) end.0 ∙ sym end.2;
  ready = (stands, subst (λ w. IsSome (unit_named w s.units.units)) (sym end.0) end.1);
}
end-brings s u x c stands end = absurd end

copied-none : (found : Option (Bor Cont)) (o : Option Cont) → option_copied found ≡ o → is_some found ≡ false → is_none o ≡ true
copied-none None o e h = sym (ap (λ (p : Option Cont). is_none p) e)
copied-none (Some c) o e h = cc

pub finishes : (s : UnitState) (b : Id) (found : Option (Bor Cont)) → option_copied found ≡ cont_of b s.kept → is_some found ≡ false → Some (Finished b) ≡ finishes_in s b
finishes s b found e h = sym (ap (λ t. then_some t (Finished b)) (copied-none found (cont_of b s.kept) e h))
