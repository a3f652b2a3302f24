-- A unit of a later part is of the part at which its program stands.
use Rattle.salt_books.specs.Books.{IsUnitAtPart}
use Rattle.law_states.specs.Keeps.{KeepsUnit, KeepsUnits}
use Rattle.law_states.specs.Laws.{IsSound}
use Rattle.law_states.specs.OpenUnits.{OpenUnit, UnitState, names_in, unit_named}
use Rattle.law_story.proofs.Ids.{is_same_id-refl, is_same_id-true}
use Rattle.law_story.proofs.Lists.{In, either, in-filter}
use Rattle.law_story.proofs.NextFits.{Fits}
use Rattle.law_story.proofs.Sound.{Sound, cont-stays, of-program, open-back}
use Rattle.law_story.proofs.Upheld.{OfBoots, holds, may-fit}
use Rattle.law_story.proofs.WellKept.{of-start}
use Rattle.salt_model.specs.After.{kept}
use Rattle.salt_model.specs.Continuing.{part_due}
use Rattle.salt_model.specs.Kept.{Kept, cont_of}
use Rattle.salt_model.specs.Played.{IsPlayed}
use Rattle.salt_model.specs.Trace.{Trace, from, start_of, ◌asks◌, ◌says◌, ◌turns◌}
use Rattle.salt_model.specs.Units.{Over, Running, is_open, is_open_standing, kind_of, program_of, program_of_kind, standing, units_begun}
use Rattle.salt_model.specs.Words.{Every}
use Rattle.salt_model.specs.declared.events.Event.TheVariants.{Began, Ended}
use Rattle.salt_model.specs.declared.events.Event.{Event}
use Rattle.salt_model.specs.declared.events.UnitKind.TheVariants.{Acid, Call, First, Later}
use Rattle.salt_model.specs.declared.events.UnitKind.{UnitKind}
use Rattle.salt_books.specs.Moves.{IsAtPart}
use Rattle.salt_values.specs.Id.{is_same_id}
use Rattle.salt_values.specs.declared.cont.Cont.{Cont}
use Rattle.salt_values.specs.declared.id.Id.{Id}
use Rattle.std.proofs.Common.{ap, inl, inr, subst, sym, ◌∙◌}
use Rattle.std.specs.Bool.{then_some}
use Rattle.std.specs.Option.{option_or}
use Rattle.std.specs.Prelude.{Bool, List, Some, [], cond, false, option_and_then, option_map, refl, true, ℕ, ◌∷◌, ◌≡◌}

abbrev pub StandsDue : Trace → Type 0
StandsDue trace = (u b : Id) (part : ℕ) → is_open trace u ≡ true → kind_of u trace ≡ Some (Later b part) → part_due trace b ≡ Some part

due-says : (trace : Trace) (e : Event) → Sound trace → Fits trace e → StandsDue trace → StandsDue (trace says e)
due-says trace (Began v kind) s f h u b part o k = by (is_same_id u v) o k
  where
    begun : (kind : UnitKind) → Fits trace (Began v kind) → Some kind ≡ Some (Later b part) → part_due trace b ≡ Some part
    begun (Later c q) f g =
        let same : c ≡ b = cc in
        let at : q ≡ part = cc in
        subst (λ x. part_due trace x ≡ Some part) same (f.2.1 ∙ ap Some at)
    begun (Acid t) f g = cc
    begun (Call t n args) f g = cc
    begun (First t c n args) f g = cc

    by : (x : Bool) → is_open_standing (cond x Running (standing u trace)) ≡ true →
        option_or (then_some x kind) (kind_of u trace) ≡ Some (Later b part) → part_due trace b ≡ Some part
    by true o k = begun kind f k
    by false o k = h u b part o k
due-says trace (Ended v end) s f h u b part o k = by (is_same_id u v) refl o
  where
    other : is_same_id u v ≡ false → is_open trace u ≡ true → program_of v trace ≡ Some b → ⊥
    other e o q =
        let own : program_of u trace ≡ Some b = ap (option_and_then program_of_kind) k in
        let same : u ≡ v = s.one b u v o f.0 (of-program trace u b own) (of-program trace v b q) in
        let x : true ≡ false = sym (is_same_id-refl v) ∙ subst (λ x. is_same_id x v ≡ false) same e in
        cc

    by : (x : Bool) → is_same_id u v ≡ x → is_open_standing (cond x (Over end) (standing u trace)) ≡ true →
        part_due (trace says Ended v end) b ≡ Some part
    by true e o = cc
    by false e o = ap (option_map (λ c. c.next)) (cont-stays trace v end b (other e o)) ∙ h u b part o k
due-says trace e s f h u b part o k = h u b part (either (λ q. q) (λ q. absurd q) (open-back trace e u f o)) k

pub due : (trace : Trace) → IsPlayed trace → OfBoots (start_of trace).kept → StandsDue trace
due (from k) p w = λ u b part o g. cc
due (trace asks asked) p w = due trace p.0 w
due (trace turns b) p w = due trace p.0 w
due (trace says e) p w = let r = holds trace p.0 w in due-says trace e r.sound (may-fit trace e r.comes p.1) (due trace p.0 w)

-- a unit found by its name is of the list
pub found : (P : OpenUnit → Type 0) (u : Id) (os : List OpenUnit) (o : OpenUnit) → Every P os → unit_named u os ≡ Some o →
    P o × (o.unit ≡ u) × In u (names_in os)
found P u [] o h e = absurd (cc)
found P u (p ∷ os) o h e = by (is_same_id p.unit u) refl e (found P u os o h.1)
  where
    by : (b : Bool) → is_same_id p.unit u ≡ b → cond b (Some p) (unit_named u os) ≡ Some o →
        (unit_named u os ≡ Some o → P o × (o.unit ≡ u) × In u (names_in os)) → P o × (o.unit ≡ u) × In u (names_in (p ∷ os))
    by true t g more =
        let same : p ≡ o = cc in
        let name : p.unit ≡ u = is_same_id-true p.unit u t in
        (subst P same h.0, ap (λ (x : OpenUnit). x.unit) (sym same) ∙ name, inl name)
    by false t g more = let r = more g in (r.0, r.1, inr r.2)

pub at-part : (s : UnitState) (trace : Trace) (u : Id) → KeepsUnits s trace → IsSound trace → IsUnitAtPart s u
at-part s trace u keeps sound o named = by o.kind refl
  where
    it : KeepsUnit trace o × (o.unit ≡ u) × In u (names_in s.units)
    it = found (KeepsUnit trace) u s.units o keeps.each named

    opened : is_open trace u ≡ true
    opened = (in-filter (is_open trace) u (units_begun trace) (subst (λ us. In u us) (sym keeps.units) it.2)).1

    kind : kind_of u trace ≡ Some o.kind
    kind = subst (λ x. kind_of x trace ≡ Some o.kind) it.1 it.0.kind

    by : (k : UnitKind) → o.kind ≡ k → IsAtPart s.kept k
    by (Later b part) e = λ c here.
        let d : part_due trace b ≡ Some part = due trace sound.played (of-start (start_of trace).kept sound.well) u b part opened (kind ∙ ap Some e) in
        let there : cont_of b (kept trace) ≡ Some c = subst (λ (k : Kept). cont_of b k ≡ Some c) (sym keeps.kept) here in
        let at : Some c.next ≡ Some part = ap (option_map (λ (c : Cont). c.next)) (sym there) ∙ d in
        cc
    by (Acid t) e = tt
    by (Call t n args) e = tt
    by (First t c n args) e = tt
