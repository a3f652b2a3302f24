-- Open units may move their programs' continuations: those that are kept are accepted by decisions so far, and none is of a program in its first part.
use Rattle.salt_books.proofs.AtParts.{found}
use Rattle.law_states.specs.Keeps.{KeepsUnit, KeepsUnits}
use Rattle.law_states.specs.Laws.{IsSound}
use Rattle.law_states.specs.OpenUnits.{OpenUnit, UnitState, names_in, unit_named}
use Rattle.salt_books.specs.Moves.{CanMove, IsNew}
use Rattle.law_story.proofs.Ids.{is_same_id-refl}
use Rattle.law_story.proofs.Lists.{In, either, in-filter}
use Rattle.law_story.proofs.NextFits.{Fits}
use Rattle.law_story.proofs.Sound.{Old, OldAt, Sound, cont-stays, due-in, of-program, old-not, open-back}
use Rattle.law_story.proofs.Upheld.{OfBoots, holds, may-fit}
use Rattle.law_story.proofs.WellKept.{kept-well, of-start}
use Rattle.salt_model.specs.After.{kept}
use Rattle.salt_model.specs.Kept.{Kept, Rise, cont_of}
use Rattle.salt_model.specs.Phases.{Fallen, phase}
use Rattle.salt_model.specs.Played.{IsPlayed}
use Rattle.salt_model.specs.Trace.{Trace, from, start_of, ◌asks◌, ◌says◌, ◌turns◌}
use Rattle.salt_model.specs.Units.{Over, Running, is_open, is_open_standing, kind_of, program_of, program_of_kind, standing, units_begun}
use Rattle.salt_model.specs.Words.{Every}
use Rattle.salt_model.specs.declared.events.Event.TheVariants.{Began, Ended}
use Rattle.salt_model.specs.declared.events.Event.{Event}
use Rattle.salt_model.specs.declared.events.UnitKind.TheVariants.{Acid, Call, First, Later}
use Rattle.salt_model.specs.declared.events.UnitKind.{UnitKind}
use Rattle.salt_stands.specs.OpenConts.{do_rise}
use Rattle.salt_values.specs.Id.{is_same_id}
use Rattle.salt_values.specs.declared.cont.Cont.{Cont}
use Rattle.salt_values.specs.declared.id.Id.{Id}
use Rattle.salt_values.specs.declared.value.Value.{Value}
use Rattle.std.proofs.Common.{ap, subst, sym, ◌∙◌}
use Rattle.std.specs.Bool.{then_some}
use Rattle.std.specs.Option.{option_or}
use Rattle.std.specs.Prelude.{Bool, List, None, Option, Some, [], cond, false, option_and_then, option_map, refl, true, ℕ, ◌∷◌, ◌≡◌, ◌≤◌}

-- programs in their first part are not kept
abbrev AreFirstsNew : Trace → Type 0
AreFirstsNew trace = (u b : Id) (t : ℕ) (n : List ℕ) (args : List Value) → is_open trace u ≡ true → kind_of u trace ≡ Some (First t b n args) → cont_of b (kept trace) ≡ None

fresh-new : (trace : Trace) (b : Id) → Sound trace → (phase trace ≡ Fallen → ⊥) → (Old trace b → ⊥) → cont_of b (kept trace) ≡ None
fresh-new trace b s up fresh = by (cont_of b (kept trace)) refl
  where
    by : (o : Option Cont) → cont_of b (kept trace) ≡ o → o ≡ None
    by None e = refl
    by (Some c) e = absurd (fresh (s.old_conts b (due-in b c.next (kept trace).conts (ap (option_map (λ (c : Cont). c.next)) e))))

new-says : (trace : Trace) (e : Event) → Sound trace → Fits trace e → AreFirstsNew trace → AreFirstsNew (trace says e)
new-says trace (Began v kind) s f h u b t n args o k = by (is_same_id u v) o k
  where
    begun : (kind : UnitKind) → Fits trace (Began v kind) → Some kind ≡ Some (First t b n args) → cont_of b (kept trace) ≡ None
    begun (First t' c n' args') f g =
        let same : c ≡ b = cc in
        fresh-new trace b s f.1 (λ old. old-not (phase trace) b f.1 (subst (λ x. OldAt (phase trace) b x) (sym f.2.1 ∙ same) old))
    begun (Acid t') f g = cc
    begun (Call t' n' args') f g = cc
    begun (Later c q) f g = cc

    by : (x : Bool) → is_open_standing (cond x Running (standing u trace)) ≡ true →
        option_or (then_some x kind) (kind_of u trace) ≡ Some (First t b n args) → cont_of b (kept trace) ≡ None
    by true o k = begun kind f k
    by false o k = h u b t n args o k
new-says trace (Ended v end) s f h u b t n args o k = by (is_same_id u v) refl o
  where
    other : is_same_id u v ≡ false → is_open trace u ≡ true → program_of v trace ≡ Some b → ⊥
    other e o q =
        let own : program_of u trace ≡ Some b = ap (option_and_then program_of_kind) k in
        let same : u ≡ v = s.one b u v o f.0 (of-program trace u b own) (of-program trace v b q) in
        let x : true ≡ false = sym (is_same_id-refl v) ∙ subst (λ x. is_same_id x v ≡ false) same e in
        cc

    by : (x : Bool) → is_same_id u v ≡ x → is_open_standing (cond x (Over end) (standing u trace)) ≡ true →
        cont_of b (kept (trace says Ended v end)) ≡ None
    by true e o = cc
    by false e o = cont-stays trace v end b (other e o) ∙ h u b t n args o k
new-says trace e s f h u b t n args o k = h u b t n args (either (λ q. q) (λ q. absurd q) (open-back trace e u f o)) k

firsts-new : (trace : Trace) → IsPlayed trace → OfBoots (start_of trace).kept → AreFirstsNew trace
firsts-new (from k) p w = λ u b t n args o g. cc
firsts-new (trace asks asked) p w = firsts-new trace p.0 w
firsts-new (trace turns b) p w = firsts-new trace p.0 w
firsts-new (trace says e) p w = let r = holds trace p.0 w in new-says trace e r.sound (may-fit trace e r.comes p.1) (firsts-new trace p.0 w)

accepted-so-far : (n : ℕ) (cs : List Cont) → Rise n cs → Every (λ (c : Cont). c.accepted ≤ n) cs
accepted-so-far n [] h = tt
accepted-so-far n (c ∷ cs) h = (h.1, accepted-so-far n cs h.2)

pub can-move : (s : UnitState) (trace : Trace) (u : Id) (o : OpenUnit) → KeepsUnits s trace → IsSound trace → do_rise s.kept.conts ≡ true →
    unit_named u s.units ≡ Some o → CanMove s.kept o.kind
can-move s trace u o keeps sound rise named = record { rise = rise; accepted = accepted; new = by o.kind refl }
  where
    it : KeepsUnit trace o × (o.unit ≡ u) × In u (names_in s.units)
    it = found (KeepsUnit trace) u s.units o keeps.each named

    opened : is_open trace u ≡ true
    opened = (in-filter (is_open trace) u (units_begun trace) (subst (λ us. In u us) (sym keeps.units) it.2)).1

    kind : kind_of u trace ≡ Some o.kind
    kind = subst (λ x. kind_of x trace ≡ Some o.kind) it.1 it.0.kind

    accepted : Every (λ (c : Cont). c.accepted ≤ s.kept.decisions) s.kept.conts
    accepted = subst (λ (k : Kept). Every (λ (c : Cont). c.accepted ≤ k.decisions) k.conts) keeps.kept
        (accepted-so-far (kept trace).decisions (kept trace).conts (kept-well trace sound.played sound.well).0.accepted)

    by : (k : UnitKind) → o.kind ≡ k → IsNew s.kept k
    by (First t b n args) e =
        subst (λ (k : Kept). cont_of b k ≡ None) keeps.kept
        (firsts-new trace sound.played (of-start (start_of trace).kept sound.well) u b t n args opened (kind ∙ ap Some e))
    by (Acid t) e = tt
    by (Call t n args) e = tt
    by (Later b part) e = tt
