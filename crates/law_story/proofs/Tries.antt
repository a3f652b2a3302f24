-- No program has more tries left than the part at which it stands is tried again, and each failure uses one.
use Rattle.law_story.proofs.Defined.{AreDefined, IsKeptProgram, defined-kept, named-own, named-stays}
use Rattle.law_story.proofs.Every.{every-append, every-map}
use Rattle.law_story.proofs.Fresh.{IfComes}
use Rattle.law_story.proofs.Ids.{is_same_id-refl}
use Rattle.law_story.proofs.Lists.{either}
use Rattle.law_story.proofs.NextFits.{Fits, Flies}
use Rattle.law_story.proofs.Rising.{every-without}
use Rattle.law_story.proofs.Sound.{Sound, cont-stays, of-program, open-back}
use Rattle.law_story.proofs.Upheld.{OfBoots, holds, may-fit}
use Rattle.salt_ast.specs.Paths.{Position, at_number, position_at, retries, next_on_commit, next_on_failure}
use Rattle.salt_ast.specs.declared.programs.ProgramDef.{ProgramDef}
use Rattle.salt_model.specs.After.{branched, conts_at, defined_by, kept, run_of}
use Rattle.salt_model.specs.Continuing.{UsesTry, part_due}
use Rattle.salt_model.specs.Ends.{kept_with}
use Rattle.salt_model.specs.Everywhere.{Always, Each}
use Rattle.salt_model.specs.Kept.{AreTriesWithin, IsWithinTries, Kept, begun_cont, change_cont, cont_in, cont_of, kept_program, moved, parts_of, programs_of, retries_of, values_kept}
use Rattle.salt_model.specs.Next.{flight}
use Rattle.salt_model.specs.Played.{IsPlayed}
use Rattle.salt_model.specs.Trace.{Trace, from, line_of, start_of, ◌asks◌, ◌says◌, ◌turns◌}
use Rattle.salt_model.specs.Units.{Over, Running, is_open, is_open_standing, kind_of, program_of, program_of_kind, standing}
use Rattle.salt_model.specs.Words.{Every}
use Rattle.salt_model.specs.declared.events.End.TheVariants.{Branched, Committed}
use Rattle.salt_model.specs.declared.events.Event.{Event}
use Rattle.salt_model.specs.declared.events.Event.TheVariants.{Began, Defined, Ended}
use Rattle.salt_model.specs.declared.events.UnitKind.{UnitKind}
use Rattle.salt_model.specs.declared.events.UnitKind.TheVariants.{Acid, Call, First, Later}
use Rattle.salt_model.specs.declared.vars.Binding.{Binding}
use Rattle.salt_values.specs.Id.{is_same_id}
use Rattle.salt_values.specs.declared.cont.Cont.{Cont}
use Rattle.salt_values.specs.declared.id.Id.{Id}
use Rattle.salt_values.specs.declared.value.Value.{Value}
use Rattle.std.proofs.Common.{ap, arith, subst, sym, ◌∙◌}
use Rattle.std.specs.Bool.{then_some}
use Rattle.std.specs.Option.{option_or}
use Rattle.std.specs.Prelude.{Bool, List, None, Option, Some, [], cond, false, is_some, option_and_then, option_map, refl, suc, true, zero, ℕ, ⊤, ◌∷◌, ◌≡◌, ◌≤◌}

-- AN OPEN PART is that at which its program stands.

abbrev Stand : Trace → Type 0
Stand trace = (u b : Id) (part : ℕ) → is_open trace u ≡ true → kind_of u trace ≡ Some (Later b part) → part_due trace b ≡ Some part

stand-says : (trace : Trace) (e : Event) → Sound trace → Fits trace e → Stand trace → Stand (trace says e)
stand-says trace (Began v kind) s f h u b part o k = by (is_same_id u v) o k
  where
    begun : (kind : UnitKind) → Fits trace (Began v kind) → Some kind ≡ Some (Later b part) → part_due trace b ≡ Some part
    begun (Later c q) f g =
        let same : c ≡ b = cc in
        let at : q ≡ part = cc in
        subst (λ x. part_due trace x ≡ Some part) same (f.2.1 ∙ ap Some at)
    begun (Acid t) f g = cc
    begun (Call t n args) f g = cc
    begun (First t c n args) f g = cc

    by : (x : Bool) → is_open_standing (cond x Running (standing u trace)) ≡ true →
        option_or (then_some x kind) (kind_of u trace) ≡ Some (Later b part) → part_due trace b ≡ Some part
    by true o k = begun kind f k
    by false o k = h u b part o k
stand-says trace (Ended v end) s f h u b part o k = by (is_same_id u v) refl o
  where
    other : is_same_id u v ≡ false → is_open trace u ≡ true → program_of v trace ≡ Some b → ⊥
    other e o q =
        let own : program_of u trace ≡ Some b = ap (option_and_then program_of_kind) k in
        let same : u ≡ v = s.one b u v o f.0 (of-program trace u b own) (of-program trace v b q) in
        let x : true ≡ false = sym (is_same_id-refl v) ∙ subst (λ x. is_same_id x v ≡ false) same e in
        cc

    by : (x : Bool) → is_same_id u v ≡ x → is_open_standing (cond x (Over end) (standing u trace)) ≡ true →
        part_due (trace says Ended v end) b ≡ Some part
    by true e o = cc
    by false e o = ap (option_map (λ c. c.next)) (cont-stays trace v end b (other e o)) ∙ h u b part o k
stand-says trace e s f h u b part o k = h u b part (either (λ q. q) (λ q. absurd q) (open-back trace e u f o)) k

stand : (trace : Trace) → IsPlayed trace → OfBoots (start_of trace).kept → Stand trace
stand (from k) p w = λ u b part o g. cc
stand (trace asks asked) p w = stand trace p.0 w
stand (trace turns b) p w = stand trace p.0 w
stand (trace says e) p w = let r = holds trace p.0 w in stand-says trace e r.sound (may-fit trace e r.comes p.1) (stand trace p.0 w)

-- WAYS lead to a part with the tries that it is given, and a failure leaves fewer.

abbrev IsWithin : ProgramDef → Position → Type 0
IsWithin p at = at.tries ≤ retries (at_number at.part (parts_of p))

way-within : (p : ProgramDef) (o : Option ℕ) (at : Position) → option_map (position_at (parts_of p)) o ≡ Some at → IsWithin p at
way-within p None at h = cc
way-within p (Some n) at h =
    let same : position_at (parts_of p) n ≡ at = cc in
    let own : IsWithin p (position_at (parts_of p) n) = omega arith in
    subst (IsWithin p) same own

branch-within : (p : ProgramDef) (part tries : ℕ) → tries ≤ retries (at_number part (parts_of p)) → (at : Position) →
    next_on_failure (parts_of p) part tries ≡ Some at → IsWithin p at
branch-within p part zero l at h = way-within p _ at h
branch-within p part (suc tries) l at h =
    let same : record { part = part; tries = tries } ≡ at = cc in
    let fewer : suc tries ≤ retries (at_number part (parts_of p)) = l in
    let own : tries ≤ retries (at_number part (parts_of p)) = omega arith in
    subst (IsWithin p) same own

-- CONTINUATIONS

-- a fact of each continuation is one of b's
found-in : (P : Cont → Type 0) (b : Id) (c : Cont) (cs : List Cont) → Every P cs → cont_in b cs ≡ Some c → P c
found-in P b c [] h e = cc
found-in P b c (x ∷ cs) h e = by (is_same_id b x.base) e (found-in P b c cs h.1)
  where
    by : (t : Bool) → cond t (Some x) (cont_in b cs) ≡ Some c → (cont_in b cs ≡ Some c → P c) → P c
    by true g more = let same : x ≡ c = cc in subst P same h.0
    by false g more = more g

module _ (k : Kept) where
  abbrev P : Cont → Type 0
  P c = IsWithinTries k c

  within-change : (b : Id) (c : Cont) (f : Cont → Cont) (cs : List Cont) → cont_in b cs ≡ Some c → P (f c) → Every P cs → Every P (change_cont b f cs)
  within-change b c f [] e g h = tt
  within-change b c f (x ∷ cs) e g h = by (is_same_id b x.base) e (λ i. within-change b c f cs i g h.1)
    where
      by : (t : Bool) → cond t (Some x) (cont_in b cs) ≡ Some c → (cont_in b cs ≡ Some c → Every P (change_cont b f cs)) →
          Every P (cond t (f x ∷ cs) (x ∷ change_cont b f cs))
      by true i more = let same : c ≡ x = cc in (subst (λ y. P (f y)) same g, h.1)
      by false i more = (h.0, more i)

  within-moved : (b : Id) (c : Cont) (p : ProgramDef) (o : Option Position) (f : Cont → Cont) → ((x : Cont) → (f x).program ≡ x.program) →
      kept_program c.program k ≡ Some p → ((at : Position) → o ≡ Some at → IsWithin p at) →
      (cs : List Cont) → cont_in b cs ≡ Some c → Every P cs → Every P (moved b o f cs)
  within-moved b c p None f same g w cs e h = every-without P b cs h
  within-moved b c p (Some at) f same g w cs e h =
      let found : kept_program (f c).program k ≡ Some p = ap (λ n. kept_program n k) (same c) ∙ g in
      within-change b c _ cs e (subst (λ q. at.tries ≤ retries_of q at.part) (sym found) (w at refl)) h

  within-begun : (b : Id) (n : ℕ) (p : ProgramDef) (args : List Value) (vars : List Binding) (o : Option Position) →
      kept_program p.name k ≡ Some p → ((at : Position) → o ≡ Some at → IsWithin p at) → Every P k.conts →
      Every P (begun_cont b n p args vars o k.conts)
  within-begun b n p args vars None g w h = h
  within-begun b n p args vars (Some at) g w h = every-append P k.conts _ h (subst (λ q. at.tries ≤ retries_of q at.part) (sym g) (w at refl), tt)

  within-committed : (n : ℕ) (o : Option UnitKind) (vars : List Binding) → Every P k.conts → Every P (conts_at k n o vars)
  within-committed n None vars h = h
  within-committed n (Some (Acid s)) vars h = h
  within-committed n (Some (Call s name args)) vars h = h
  within-committed n (Some (First s b name args)) vars h = go (kept_program name k) refl
    where
      go : (o : Option ProgramDef) → kept_program name k ≡ o →
          Every P (elim o [ None ↦ k.conts | Some p ↦ begun_cont b n p args vars (next_on_commit (parts_of p) 1) k.conts ])
      go None e = h
      go (Some p) e = within-begun b n p args vars (next_on_commit (parts_of p) 1) (subst (λ x. kept_program x k ≡ Some p) (named-own (programs_of k) name p e) e)
          (λ at. way-within p _ at) h
  within-committed n (Some (Later b part)) vars h = by (cont_of b k) refl
    where
      go : (c : Cont) → cont_of b k ≡ Some c → (o : Option ProgramDef) → kept_program c.program k ≡ o →
          Every P (elim o [ None ↦ k.conts | Some p ↦ moved b (next_on_commit (parts_of p) part) (λ x. record x { vars = values_kept p vars }) k.conts ])
      go c e None g = h
      go c e (Some p) g = within-moved b c p (next_on_commit (parts_of p) part) _ (λ x. refl) g (λ at. way-within p _ at) k.conts e h

      by : (o : Option Cont) → cont_of b k ≡ o →
          Every P
          (elim (option_and_then (λ c. kept_program c.program k) o)
          [ None ↦ k.conts | Some p ↦ moved b (next_on_commit (parts_of p) part) (λ x. record x { vars = values_kept p vars }) k.conts ])
      by None e = h
      by (Some c) e = go c e (kept_program c.program k) refl

  within-branched : (n : ℕ) (o : Option UnitKind) →
      ((b : Id) (part : ℕ) → o ≡ Some (Later b part) → option_map (λ c. c.next) (cont_of b k) ≡ Some part) →
      Every P k.conts → AreTriesWithin (branched k n o)
  within-branched n None d h = h
  within-branched n (Some (Acid s)) d h = h
  within-branched n (Some (Call s name args)) d h = h
  within-branched n (Some (First s b name args)) d h = h
  within-branched n (Some (Later b part)) d h = by (cont_of b k) refl
    where
      left : Option Cont → ℕ
      left o = elim o [ None ↦ 0 | Some c ↦ c.tries ]

      within : (c : Cont) (p : ProgramDef) → cont_of b k ≡ Some c → kept_program c.program k ≡ Some p →
          c.tries ≤ retries (at_number part (parts_of p))
      within c p e g =
          let due : option_map (λ (c : Cont). c.next) (Some c) ≡ Some part =
          subst (λ o. option_map (λ (c : Cont). c.next) o ≡ Some part) e (d b part refl) in
          let at : c.next ≡ part = cc in
          subst (λ m. c.tries ≤ retries (at_number m (parts_of p))) at (subst (λ q. c.tries ≤ retries_of q c.next) g (found-in P b c k.conts h e))

      go : (c : Cont) → cont_of b k ≡ Some c → (o : Option ProgramDef) → kept_program c.program k ≡ o →
          Every P (elim o [ None ↦ k.conts | Some p ↦ moved b (next_on_failure (parts_of p) part c.tries) (λ x. x) k.conts ])
      go c e None g = h
      go c e (Some p) g = within-moved b c p (next_on_failure (parts_of p) part c.tries) _ (λ x. refl) g (branch-within p part c.tries (within c p e g)) k.conts e h

      by : (o : Option Cont) → cont_of b k ≡ o →
          Every P
          (elim (option_and_then (λ c. kept_program c.program k) o)
          [ None ↦ k.conts | Some p ↦ moved b (next_on_failure (parts_of p) part (left o)) (λ x. x) k.conts ])
      by None e = h
      by (Some c) e = go c e (kept_program c.program k) refl

-- a program that is kept has the same tries under more definitions
within-more : (trace : Trace) (n : ℕ) (text : List ℕ) (c : Cont) → IsWithinTries (kept trace) c → IsWithinTries (kept (trace says Defined n text)) c
within-more trace n text c h = by (kept_program c.program (kept trace)) refl h
  where
    k : Kept
    k = kept (trace says Defined n text)

    by : (o : Option ProgramDef) → kept_program c.program (kept trace) ≡ o → c.tries ≤ retries_of o c.next → IsWithinTries k c
    by None e l = let none : c.tries ≤ 0 = l in omega arith
    by (Some p) e l = subst (λ o. c.tries ≤ retries_of o c.next)
        (sym (named-stays (kept trace).definitions (defined_by (line_of trace)) c.program p e)) l

-- a unit that ends is open
abbrev IsOfOpen : Trace → Event → Type 0
IsOfOpen trace (Ended u end) = is_open trace u ≡ true
IsOfOpen trace e = ⊤

fits-open : (trace : Trace) (e : Event) → Fits trace e → IsOfOpen trace e
fits-open trace (Ended u end) f = f.0
fits-open trace e f = tt

flies-open : (trace : Trace) (e : Event) → Flies trace e → IsOfOpen trace e
flies-open trace (Ended u (Committed n)) f = f.0
flies-open trace (Ended u (Branched n c)) f = f.0
flies-open trace (Defined n text) f = tt
flies-open trace e f = absurd f

within-says : (trace : Trace) (e : Event) → IsOfOpen trace e → Stand trace → AreTriesWithin (kept trace) → AreTriesWithin (kept (trace says e))
within-says trace (Ended u (Committed n)) o s h = within-committed (kept trace) n (kind_of u trace) (run_of u trace).vars h
within-says trace (Ended u (Branched n c)) o s h = within-branched (kept trace) n (kind_of u trace) (λ b part. s u b part o) h
within-says trace (Defined n text) o s h = every-map (IsWithinTries (kept trace)) (IsWithinTries (kept (trace says Defined n text)))
    (within-more trace n text) (kept trace).conts h
within-says trace e o s h = h

pub tries-within : (trace : Trace) → IsPlayed trace → OfBoots (start_of trace).kept → AreTriesWithin (start_of trace).kept →
    AreTriesWithin (kept trace)
tries-within (from k) p w h = h
tries-within (trace asks asked) p w h = tries-within trace p.0 w h
tries-within (trace turns b) p w h = tries-within trace p.0 w h
tries-within (trace says e) p w h = within-says trace e (fits-open trace e (may-fit trace e (holds trace p.0 w).comes p.1)) (stand trace p.0 w)
    (tries-within trace p.0 w h)

-- with what is in flight
pub tries-with : (trace : Trace) → IsPlayed trace → OfBoots (start_of trace).kept → AreTriesWithin (kept trace) →
    AreTriesWithin (kept_with trace (flight trace))
tries-with trace p w h = by (flight trace) (holds trace p w).flies
  where
    by : (o : Option Event) → IfComes (Flies trace) o → AreTriesWithin (kept_with trace o)
    by None f = h
    by (Some e) f = within-says trace e (flies-open trace e f) (stand trace p w) h

pub tries-always : (trace : Trace) → IsPlayed trace → OfBoots (start_of trace).kept → AreTriesWithin (start_of trace).kept →
    Always (λ t. AreTriesWithin (kept t)) trace
tries-always (from k) p w h = h
tries-always (trace asks asked) p w h = (tries-always trace p.0 w h, tries-within (trace asks asked) p w h)
tries-always (trace turns b) p w h = (tries-always trace p.0 w h, tries-within (trace turns b) p w h)
tries-always (trace says e) p w h = (tries-always trace p.0 w h, tries-within (trace says e) p w h)

-- A FAILURE uses a try.

found-change : (b : Id) (f : Cont → Cont) → ((x : Cont) → (f x).base ≡ x.base) → (cs : List Cont) (c : Cont) → cont_in b cs ≡ Some c →
    cont_in b (change_cont b f cs) ≡ Some (f c)
found-change b f same [] c h = cc
found-change b f same (x ∷ cs) c h = by (is_same_id b x.base) refl h (found-change b f same cs c)
  where
    by : (t : Bool) → is_same_id b x.base ≡ t → cond t (Some x) (cont_in b cs) ≡ Some c →
        (cont_in b cs ≡ Some c → cont_in b (change_cont b f cs) ≡ Some (f c)) →
        cont_in b (cond t (f x ∷ cs) (x ∷ change_cont b f cs)) ≡ Some (f c)
    by true e g more = ap (λ z. cond (is_same_id b z) (Some (f x)) (cont_in b cs)) (same x) ∙ rw e (let own : x ≡ c = cc in ap (λ y. Some (f y)) own)
    by false e g more = rw e (more g)

failed-uses : (k : Kept) (n : ℕ) (o : Option UnitKind) (b : Id) (part : ℕ) (c : Cont) (tries : ℕ) → o ≡ Some (Later b part) →
    cont_of b k ≡ Some c → c.next ≡ part → c.tries ≡ suc tries → IsKeptProgram k c.program →
    cont_of b (branched k n o) ≡ Some (record c { tries = tries })
failed-uses k n o b part c tries kind e at left d = subst (λ q. cont_of b (branched k n q) ≡ Some (record c { tries = tries })) (sym kind)
    (subst (λ m. cont_of b (branched k n (Some (Later b m))) ≡ Some (record c { tries = tries })) at (by (cont_of b k) e))
  where
    go : (q : Option ProgramDef) → is_some q ≡ true →
        cont_in b (elim q [ None ↦ k.conts | Some p ↦ moved b (next_on_failure (parts_of p) c.next c.tries) (λ x. x) k.conts ]) ≡ Some (record c { tries = tries })
    go None h = cc
    go (Some p) h = subst (λ m. cont_in b (moved b (next_on_failure (parts_of p) c.next m) (λ x. x) k.conts) ≡ Some (record c { tries = tries })) (sym left)
        (found-change b (λ x. record x { next = c.next; tries = tries }) (λ x. refl) k.conts c e)

    left_of : Option Cont → List Cont
    left_of q =
        elim (option_and_then (λ (x : Cont). kept_program x.program k) q)
        [ None ↦ k.conts | Some p ↦ moved b (next_on_failure (parts_of p) c.next (elim q [ None ↦ 0 | Some x ↦ x.tries ])) (λ x. x) k.conts ]

    by : (q : Option Cont) → q ≡ Some c → cont_in b (left_of q) ≡ Some (record c { tries = tries })
    by q same = subst (λ q. cont_in b (left_of q) ≡ Some (record c { tries = tries })) (sym same) (go (kept_program c.program k) d)

uses-try : (trace : Trace) (e : Event) → IsOfOpen trace e → Stand trace → AreDefined (kept trace) (kept trace).conts → UsesTry trace e
uses-try trace (Ended u (Branched n x)) o s d = λ b part c tries kind e left.
    let due : option_map (λ (c : Cont). c.next) (Some c) ≡ Some part =
    subst (λ q. option_map (λ (c : Cont). c.next) q ≡ Some part) e (s u b part o kind) in
    failed-uses (kept trace) n (kind_of u trace) b part c tries kind e (cc) left
    (found-in (λ c. IsKeptProgram (kept trace) c.program) b c (kept trace).conts d e)
uses-try trace e o s d = tt

pub tries-used : (trace : Trace) → IsPlayed trace → OfBoots (start_of trace).kept → AreDefined (start_of trace).kept (start_of trace).kept.conts →
    Each UsesTry trace
tries-used (from k) p w h = tt
tries-used (trace asks asked) p w h = tries-used trace p.0 w h
tries-used (trace turns b) p w h = tries-used trace p.0 w h
tries-used (trace says e) p w h = (
  tries-used trace p.0 w h,
  uses-try trace e (fits-open trace e (may-fit trace e (holds trace p.0 w).comes p.1))
      (stand trace p.0 w) (defined-kept trace h),
)
