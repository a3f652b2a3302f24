-- Each statement done is the declared one, for all played traces.
use Rattle.law_story.proofs.Asking.{AllDone, AllWait, Flying, IsAsked, IsFromLine, IsOfAcid, IsSingle, Sessions, all-wait, asked-asks, asked-go, asked-opened, asked-said, flying-down, flying-next, said_at_end, sessions-asks, sessions-says, sessions-turns, single-next}
use Rattle.law_story.proofs.Defined.{AreDefined, IsKeptProgram, defined-kept, program-stays}
use Rattle.law_story.proofs.Fresh.{IfComes}
use Rattle.law_story.proofs.Ids.{is_same_id-refl}
use Rattle.law_story.proofs.Lists.{In, either}
use Rattle.law_story.proofs.NextFits.{Fits, IsOwn}
use Rattle.law_story.proofs.Sound.{Sound, bases_in, conts-kept, due-in, of-program, open-back}
use Rattle.law_story.proofs.Upheld.{OfBoots, holds, may-fit}
use Rattle.salt_ast.specs.declared.trees.Statement.{Statement}
use Rattle.salt_model.specs.After.{kept}
use Rattle.salt_model.specs.AsDeclared.{DoesDeclared, HasDoneAll, IsDeclared, IsDeclaredBy}
use Rattle.salt_model.specs.Kept.{Kept, block_of_call, block_of_kind, block_of_part, cont_in, kept_program}
use Rattle.salt_model.specs.Next.{flight, next}
use Rattle.salt_model.specs.Phases.{Serving, phase}
use Rattle.salt_model.specs.Played.{IsPlayed}
use Rattle.salt_model.specs.Segments.{May}
use Rattle.salt_model.specs.Trace.{Trace, from, start_of, ◌asks◌, ◌says◌, ◌turns◌}
use Rattle.salt_model.specs.Units.{Over, Running, done_of, is_open, is_open_standing, kind_of, program_of, program_of_kind, standing}
use Rattle.salt_model.specs.Waiting.{statement_in}
use Rattle.salt_model.specs.declared.events.End.TheVariants.{Committed}
use Rattle.salt_model.specs.declared.events.Event.{Event}
use Rattle.salt_model.specs.declared.events.Event.TheVariants.{Began, Did, Down, Ended, Opened}
use Rattle.salt_model.specs.declared.events.UnitKind.{UnitKind}
use Rattle.salt_model.specs.declared.events.UnitKind.TheVariants.{Acid, Call, First, Later}
use Rattle.salt_values.specs.Id.{is_same_id}
use Rattle.salt_values.specs.declared.cont.Cont.{Cont}
use Rattle.salt_values.specs.declared.id.Id.{Id}
use Rattle.std.proofs.Common.{ap, inl, inr, subst, sym, ◌∙◌}
use Rattle.std.specs.Bool.{then_some}
use Rattle.std.specs.Option.{option_or}
use Rattle.std.specs.Prelude.{Bool, List, None, Option, Some, [], cond, false, is_some, length, map, option_and_then, option_map, refl, slice_get, true, ℕ, ⊤, ◌∷◌, ◌≡◌}

-- a unit's program is kept, and a part's goes on
abbrev HasBlock : Kept → Option UnitKind → Type 0
HasBlock k None = ⊥
HasBlock k (Some (Acid s)) = ⊤
HasBlock k (Some (Call s n args)) = IsKeptProgram k n
HasBlock k (Some (First s b n args)) = IsKeptProgram k n
HasBlock k (Some (Later b part)) = In b (map (λ (c : Cont). c.base) k.conts)

abbrev Blocks : Trace → Type 0
Blocks trace = (u : Id) → is_open trace u ≡ true → HasBlock (kept trace) (kind_of u trace)

-- an event that leaves the unit's program
block-stays : (trace : Trace) (e : Event) (o : Option UnitKind) → ((b : Id) (part : ℕ) → o ≡ Some (Later b part) → In b (bases_in trace) → In b (bases_in (trace says e))) → HasBlock (kept trace) o → HasBlock (kept (trace says e)) o
block-stays trace e None f h = h
block-stays trace e (Some (Acid s)) f h = tt
block-stays trace e (Some (Call s n args)) f h = program-stays trace e n h
block-stays trace e (Some (First s b n args)) f h = program-stays trace e n h
block-stays trace e (Some (Later b part)) f h = f b part refl h

is-later : (o : Option UnitKind) (b : Id) (part : ℕ) → o ≡ Some (Later b part) → elim (option_and_then program_of_kind o) [ None ↦ false | Some c ↦ is_same_id b c ] ≡ true
is-later o b part e = subst (λ o. elim (option_and_then program_of_kind o) [ None ↦ false | Some c ↦ is_same_id b c ] ≡ true) (sym e) (is_same_id-refl b)

blocks-says : (trace : Trace) (e : Event) → Sound trace → Fits trace e → IsAsked trace e → Blocks trace → Blocks (trace says e)
blocks-says trace (Began v kind) s f g h u o = by (is_same_id u v) o
  where
    begun : (kind : UnitKind) → Fits trace (Began v kind) → IsAsked trace (Began v kind) → HasBlock (kept trace) (Some kind)
    begun (Acid t) f g = tt
    begun (Call t n args) f g = g
    begun (First t b n args) f g = g
    begun (Later b part) f g = due-in b part (kept trace).conts f.2.1

    by : (x : Bool) → is_open_standing (cond x Running (standing u trace)) ≡ true → HasBlock (kept trace) (option_or (then_some x kind) (kind_of u trace))
    by true o = begun kind f g
    by false o = h u o
blocks-says trace (Ended v end) s f g h u o = by (is_same_id u v) refl o
  where
    by : (x : Bool) → is_same_id u v ≡ x → is_open_standing (cond x (Over end) (standing u trace)) ≡ true → HasBlock (kept (trace says Ended v end)) (kind_of u trace)
    by true e o = cc
    by false e o = block-stays trace (Ended v end) (kind_of u trace) (λ b part k i. conts-kept trace v end b (λ q. other b part k q) i) (h u o)
      where
        other : (b : Id) (part : ℕ) → kind_of u trace ≡ Some (Later b part) → program_of v trace ≡ Some b → ⊥
        other b part k q =
            let same : u ≡ v = s.one b u v o f.0 (is-later (kind_of u trace) b part k) (of-program trace v b q) in
            let x : true ≡ false = sym (is_same_id-refl v) ∙ subst (λ x. is_same_id x v ≡ false) same e in
            cc
blocks-says trace e s f g h u o = block-stays trace e (kind_of u trace) (λ b part k i. i) (h u (either (λ q. q) (λ q. absurd q) (open-back trace e u f o)))

-- ALL OF IT, AT A PLACE

record AllAsked (trace : Trace) : Type 0 where
  sessions : Sessions trace
  waits : AllWait trace
  blocks : Blocks trace
  comes : IfComes (IsAsked trace) (next trace)
  flying : Flying trace (flight trace)

asked-at : (trace : Trace) (e : Event) → IfComes (IsAsked trace) (next trace) → May trace e → IsAsked trace e
asked-at trace (Down why) c m = tt
asked-at trace (Opened boot n) c m = tt
asked-at trace e c m = subst (IfComes (IsAsked trace)) m c

-- no unit that a statement's line began is left where a segment is complete
none-single : (trace : Trace) → phase trace ≡ Serving → next trace ≡ None → (u : Id) (s : ℕ) → is_open trace u ≡ true → IsOfAcid trace u s → IsSingle trace u → IsOwn u (said_at_end trace) → ⊥
none-single trace p n u s o k i own = let r = single-next trace u s p k i own in let x : Some r.0 ≡ None = sym r.1 ∙ n in cc

all-says : (trace : Trace) (e : Event) → IsPlayed (trace says e) → OfBoots (start_of trace).kept → AllAsked trace → AllAsked (trace says e)
all-says trace e p w a =
    let h = holds trace p.0 w in
    let f = may-fit trace e h.comes p.1 in
    let g = asked-at trace e a.comes p.1 in
    let sessions = sessions-says trace e a.sessions h.sound f g p.1 in
    let waits = all-wait trace e h.sound f a.waits in
    let x = coming trace e p w g sessions waits a.flying in
    record { sessions = sessions; waits = waits; blocks = blocks-says trace e h.sound f g a.blocks; comes = x.0; flying = x.1 }
  where
    coming : (trace : Trace) (e : Event) → IsPlayed (trace says e) → OfBoots (start_of trace).kept → IsAsked trace e → Sessions (trace says e) → AllWait (trace says e) → Flying trace (flight trace) →
        IfComes (IsAsked (trace says e)) (next (trace says e)) × Flying (trace says e) (flight (trace says e))
    coming trace (Down why) p w g s a f = (tt, flying-down trace why (flight trace) f)
    coming trace (Opened boot n) p w g s a f =
        let x = asked-opened trace boot n (flight trace) f in
        (x, flying-next (trace says Opened boot n) (next (trace says Opened boot n)) x)
    coming trace e p w g s a f =
        let x = asked-said trace e g s a (holds (trace says e) p w).sound.drains (phase (trace says e)) refl in
        (x, flying-next (trace says e) (next (trace says e)) x)

all-asked : (trace : Trace) → IsPlayed trace → OfBoots (start_of trace).kept → AllAsked trace
all-asked (from k) p w = record { sessions = λ q. cc; waits = λ u i. absurd i; blocks = λ u o. cc; comes = tt; flying = tt }
all-asked (trace asks asked) p w =
    let a = all-asked trace p.0 w in
    let sessions = sessions-asks trace asked a.sessions (none-single trace p.1.0 p.1.1) in
    let x = asked-asks trace asked sessions p.1.0 in
    record { sessions = sessions; waits = a.waits; blocks = a.blocks; comes = x; flying = flying-next (trace asks asked) (next (trace asks asked)) x }
all-asked (trace turns b) p w =
    let a = all-asked trace p.0 w in
    let x = asked-go (trace turns b) b in
    record { sessions = sessions-turns trace b a.sessions (none-single trace p.1 p.2); waits = a.waits; blocks = a.blocks; comes = x; flying = flying-next (trace turns b) (next (trace turns b)) x }
all-asked (trace says e) p w = all-says trace e p w (all-asked trace p.0 w)

-- THE LAW

cont-defined : (k : Kept) (b : Id) (cs : List Cont) → AreDefined k cs → In b (map (λ (c : Cont). c.base) cs) → (c : Cont) × (cont_in b cs ≡ Some c) × IsKeptProgram k c.program
cont-defined k b [] d i = absurd i
cont-defined k b (c ∷ cs) d i = by (is_same_id b c.base) refl i (cont-defined k b cs d.1)
  where
    by : (x : Bool) → is_same_id b c.base ≡ x → In b (map (λ (c : Cont). c.base) (c ∷ cs)) → (In b (map (λ (c : Cont). c.base) cs) → (y : Cont) × (cont_in b cs ≡ Some y) × IsKeptProgram k y.program) →
        (y : Cont) × (cond x (Some c) (cont_in b cs) ≡ Some y) × IsKeptProgram k y.program
    by true e i more = (c, refl, d.0)
    by false e (inl q) more = let x : true ≡ false = sym (is_same_id-refl b) ∙ subst (λ z. is_same_id b z ≡ false) q e in cc
    by false e (inr j) more = more j

map-some : {A B : Type 0} (f : A → B) (o : Option A) → is_some o ≡ true → is_some (option_map f o) ≡ true
map-some f None h = cc
map-some f (Some x) h = refl

block-some : (k : Kept) (kind : UnitKind) → AreDefined k k.conts → HasBlock k (Some kind) → ((s : ℕ) → kind ≡ Acid s → ⊥) → is_some (block_of_kind k kind) ≡ true
block-some k (Acid s) d h n = absurd (n s refl)
block-some k (Call s name args) d h n = map-some block_of_call (kept_program name k) h
block-some k (First s b name args) d h n = map-some (λ p. block_of_part p 1) (kept_program name k) h
block-some k (Later b part) d h n =
    let c = cont-defined k b k.conts d h in
    subst (λ o. is_some (option_and_then (λ c. option_map (λ p. block_of_part p part) (kept_program c.program k)) o) ≡ true) (sym c.1) (map-some (λ p. block_of_part p part) (kept_program c.0.program k) c.2)

next-of : (trace : Trace) (u : Id) (st : Statement) (o : Option (List Statement)) → is_some o ≡ true → statement_in u trace o ≡ Some st →
    option_and_then (λ block. slice_get block (length (done_of u trace))) o ≡ Some st
next-of trace u st None i h = cc
next-of trace u st (Some block) i h = h

declared-by : (trace : Trace) (u : Id) (st : Statement) (o : Option UnitKind) → kind_of u trace ≡ o → AreDefined (kept trace) (kept trace).conts → HasBlock (kept trace) o →
    statement_in u trace (option_and_then (block_of_kind (kept trace)) o) ≡ Some st → IsFromLine trace u st → IsDeclaredBy trace u st o
declared-by trace u st None e d h a l = absurd h
declared-by trace u st (Some (Acid s)) e d h a l = l s e
declared-by trace u st (Some (Call s n args)) e d h a l = next-of trace u st (block_of_kind (kept trace) (Call s n args)) (block-some (kept trace) (Call s n args) d h (λ t q. cc)) a
declared-by trace u st (Some (First s b n args)) e d h a l = next-of trace u st (block_of_kind (kept trace) (First s b n args)) (block-some (kept trace) (First s b n args) d h (λ t q. cc)) a
declared-by trace u st (Some (Later b part)) e d h a l = next-of trace u st (block_of_kind (kept trace) (Later b part)) (block-some (kept trace) (Later b part) d h (λ t q. cc)) a

whole-of : (done : List Statement) (o : Option (List Statement)) → is_some o ≡ true → ((block : List Statement) → o ≡ Some block → length done ≡ length block) → option_map length o ≡ Some (length done)
whole-of done None i h = cc
whole-of done (Some block) i h = ap (λ n. Some n) (sym (h block refl))

done-all : (trace : Trace) (u : Id) (o : Option UnitKind) → AreDefined (kept trace) (kept trace).conts → HasBlock (kept trace) o → AllDone trace u o → HasDoneAll trace u o
done-all trace u None d h a = h
done-all trace u (Some (Acid s)) d h a = a
done-all trace u (Some (Call s n args)) d h a = whole-of (done_of u trace) (block_of_kind (kept trace) (Call s n args)) (block-some (kept trace) (Call s n args) d h (λ t q. cc)) a
done-all trace u (Some (First s b n args)) d h a = whole-of (done_of u trace) (block_of_kind (kept trace) (First s b n args)) (block-some (kept trace) (First s b n args) d h (λ t q. cc)) a
done-all trace u (Some (Later b part)) d h a = whole-of (done_of u trace) (block_of_kind (kept trace) (Later b part)) (block-some (kept trace) (Later b part) d h (λ t q. cc)) a

declares-at : (trace : Trace) (e : Event) → AllAsked trace → Fits trace e → May trace e → AreDefined (kept trace) (kept trace).conts → DoesDeclared trace e
declares-at trace (Did u st a) h f m d = let g = asked-at trace (Did u st a) h.comes m in declared-by trace u st (kind_of u trace) refl d (h.blocks u f.0) g.0 g.1
declares-at trace (Ended u (Committed n)) h f m d = done-all trace u (kind_of u trace) d (h.blocks u f.0) (asked-at trace (Ended u (Committed n)) h.comes m)
declares-at trace e h f m d = tt

pub declared : (trace : Trace) → IsPlayed trace → OfBoots (start_of trace).kept → AreDefined (start_of trace).kept (start_of trace).kept.conts → IsDeclared trace
declared (from k) p w d = tt
declared (trace asks asked) p w d = declared trace p.0 w d
declared (trace turns b) p w d = declared trace p.0 w d
declared (trace says e) p w d = (declared trace p.0 w d, declares-at trace e (all-asked trace p.0 w) (may-fit trace e (holds trace p.0 w).comes p.1) p.1 (defined-kept trace d))
