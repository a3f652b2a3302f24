-- What an open unit asks for stays through the events of others: its block, its statements done, and its line.
use Rattle.salt_ast.specs.ProgramJudgement.{program_named}
use Rattle.salt_ast.specs.declared.lines.Line.{Line}
use Rattle.salt_ast.specs.declared.trees.Statement.{Statement}
use Rattle.law_states.specs.Members.{In}
use Rattle.law_story.proofs.Coming.{Good}
use Rattle.law_story.proofs.Fresh.{standing-other}
use Rattle.law_story.proofs.Ids.{is_same_id-refl, is_same_id-true}
use Rattle.law_story.proofs.Lists.{into-filter}
use Rattle.law_story.proofs.NextFits.{Fits}
use Rattle.law_story.proofs.Replays.{Ground, others}
use Rattle.law_story.proofs.Sound.{Sound, kind-in, kind-stays, of-program, stays-branched as conts-stay-branched, stays-committed as conts-stay-committed}
use Rattle.law_story.specs.Names.{is_unit_of}
use Rattle.salt_model.specs.After.{branched, conts_at, kept, reach_now, run_of}
use Rattle.salt_model.specs.Kept.{Kept, block_of_call, block_of_kind, block_of_part, cont_in, cont_of, conts_branched, program_of_definition, table_of_definition}
use Rattle.salt_model.specs.Reaches.{reach}
use Rattle.salt_model.specs.Statements.{UnitRun}
use Rattle.salt_model.specs.Trace.{Trace, ◌says◌}
use Rattle.salt_model.specs.Units.{Waiting, done_of, is_open, kind_of, line_waited, program_of, program_of_kind, standing, units_begun}
use Rattle.salt_model.specs.Waiting.{asked_by, block_of, statement_in, statement_of_line}
use Rattle.salt_model.specs.declared.events.End.TheVariants.{Branched, Committed}
use Rattle.salt_model.specs.declared.events.Event.{Event}
use Rattle.salt_model.specs.declared.events.Event.TheVariants.{Began, Defined, Did, Ended, Waits}
use Rattle.salt_model.specs.declared.events.UnitKind.{UnitKind}
use Rattle.salt_model.specs.declared.events.UnitKind.TheVariants.{Acid, Call, First, Later}
use Rattle.salt_model.specs.declared.vars.Binding.{Binding}
use Rattle.salt_values.specs.Id.{is_same_id}
use Rattle.salt_values.specs.declared.cont.Cont.{Cont}
use Rattle.salt_values.specs.declared.id.Id.{Id}
use Rattle.std.proofs.Common.{ap, filter_map, subst, sym, ◌∙◌}
use Rattle.std.specs.Prelude.{Bool, List, None, Option, Some, false, length, option_and_then, option_map, refl, slice_get, true, ℕ, ◌≡◌}

-- the two units are not of one program
abbrev Another : Id → Option UnitKind → Type 0
Another b o = (c : Id) → option_and_then program_of_kind o ≡ Some c → is_same_id b c ≡ false

not-its-own : (b : Id) (o : Option UnitKind) → Another b o → option_and_then program_of_kind o ≡ Some b → ⊥
not-its-own b o a e = let x : true ≡ false = sym (is_same_id-refl b) ∙ a b e in cc

cont-committed : (b : Id) (k : Kept) (n : ℕ) (o : Option UnitKind) (vars : List Binding) → Another b o →
    cont_in b (conts_at k n o vars) ≡ cont_in b k.conts
cont-committed b k n None vars a = refl
cont-committed b k n (Some kind) vars a = conts-stay-committed b k n kind vars (not-its-own b (Some kind) a)

cont-branched : (b : Id) (k : Kept) (kind : UnitKind) → Another b (Some kind) → cont_in b (conts_branched k kind) ≡ cont_in b k.conts
cont-branched b k kind a = conts-stay-branched b k kind (not-its-own b (Some kind) a)

another : (trace : Trace) (u v : Id) → Sound trace → is_open trace u ≡ true → is_open trace v ≡ true → is_same_id u v ≡ false → (b : Id) →
    program_of u trace ≡ Some b → (c : Id) → program_of v trace ≡ Some c → is_same_id b c ≡ false
another trace u v s o p d b e c q = by (is_same_id b c) refl
  where
    by : (t : Bool) → is_same_id b c ≡ t → t ≡ false
    by false h = refl
    by true h =
        let same : u ≡ v = s.one b u v o p (of-program trace u b e) (of-program trace v b (q ∙ ap Some (sym (is_same_id-true b c h)))) in
        let x : true ≡ false = sym (is_same_id-refl v) ∙ subst (λ y. is_same_id y v ≡ false) same d in cc

-- definitions and the continuation of the unit's program stay
pub record StaysFor (old new : Kept) (o : Option Id) : Type 0 where
  pub definitions : new.definitions ≡ old.definitions
  pub conts : (b : Id) → o ≡ Some b → cont_of b new ≡ cont_of b old

stays-branched : (k : Kept) (n : ℕ) (v : Option UnitKind) (p : Option Id) → ((b : Id) → p ≡ Some b → Another b v) → StaysFor k (branched k n v) p
stays-branched k n None p a = record { definitions = refl; conts = λ b e. refl }
stays-branched k n (Some kind) p a = record { definitions = refl; conts = λ b e. cont-branched b k kind (a b e) }

kept-stays : (trace : Trace) (e : Event) (u : Id) → Sound trace → Fits trace e → Good trace e → is_open trace u ≡ true → is_unit_of u e ≡ false →
    StaysFor (kept trace) (kept (trace says e)) (program_of u trace)
kept-stays trace (Ended v (Committed n)) u s f g o d = record {
  definitions = refl;
  conts = λ b e. cont-committed b (kept trace) n (kind_of v trace) (run_of v trace).vars (another trace u v s o f.0 d b e);
}
kept-stays trace (Ended v (Branched n c)) u s f g o d =
    stays-branched (kept trace) n (kind_of v trace) (program_of u trace) (λ b e. another trace u v s o f.0 d b e)
kept-stays trace (Defined n t) u s f g o d =
    absurd (subst (In u) g (into-filter (is_open trace) u (units_begun trace) (kind-in trace u (s.known u o)) o))
kept-stays trace e u s f g o d = record { definitions = refl; conts = λ b e. refl }

block-stays : (old new : Kept) (o : Option UnitKind) → StaysFor old new (option_and_then program_of_kind o) →
    option_and_then (block_of_kind new) o ≡ option_and_then (block_of_kind old) o
block-stays old new None s = refl
block-stays old new (Some (Acid z)) s = refl
block-stays old new (Some (Call z n args)) s =
    ap (λ ds. option_map block_of_call (program_named (filter_map program_of_definition ds) n)) s.definitions
block-stays old new (Some (First z b n args)) s =
    ap (λ ds. option_map (λ p. block_of_part p 1) (program_named (filter_map program_of_definition ds) n)) s.definitions
block-stays old new (Some (Later b part)) s =
    λ i. option_and_then (λ (c : Cont). option_map (λ p. block_of_part p part) (program_named (filter_map program_of_definition (s.definitions i)) c.program)) (s.conts b refl i)

done-other : (trace : Trace) (e : Event) (u : Id) → is_unit_of u e ≡ false → done_of u (trace says e) ≡ done_of u trace
done-other trace (Began v kind) u n = rw n refl
done-other trace (Did v st a) u n = rw n refl
done-other trace e u n = refl

waited-other : (trace : Trace) (e : Event) (u : Id) → is_unit_of u e ≡ false → line_waited u (trace says e) ≡ line_waited u trace
waited-other trace (Waits v owners) u n = rw n refl
waited-other trace e u n = refl

-- what a waiting unit asks for: the next of its block, or the statement of the line of its Waits
abbrev pub waits_to : Option (List Statement) → List Statement → Line → Option Statement
waits_to (Some block) done line = slice_get block (length done)
waits_to None done line = statement_of_line line

pub asked-waiting : (trace : Trace) (u : Id) → standing u trace ≡ Waiting →
    asked_by u trace ≡ waits_to (block_of u trace) (done_of u trace) (line_waited u trace)
asked-waiting trace u w = by (block_of u trace)
  where
    by : (o : Option (List Statement)) → statement_in u trace o ≡ waits_to o (done_of u trace) (line_waited u trace)
    by (Some block) = refl
    by None = rw w refl

pub asked-stays : (trace : Trace) (e : Event) (u : Id) → Sound trace → Fits trace e → Good trace e → standing u trace ≡ Waiting →
    is_unit_of u e ≡ false → asked_by u (trace says e) ≡ asked_by u trace
asked-stays trace e u s f g w d =
    asked-waiting (trace says e) u (standing-other u e (standing u trace) d ∙ w)
    ∙ (λ i. waits_to (block i) (done-other trace e u d i) (waited-other trace e u d i))
    ∙ sym (asked-waiting trace u w)
  where
    o : is_open trace u ≡ true
    o = rw w refl

    block : block_of u (trace says e) ≡ block_of u trace
    block =
        ap (option_and_then (block_of_kind (kept (trace says e)))) (kind-stays trace e u s f (s.known u o))
        ∙ block-stays (kept trace) (kept (trace says e)) (kind_of u trace) (kept-stays trace e u s f g o d)

-- and what its statement would reach
pub reach-stays : (trace : Trace) (e : Event) (u : Id) → Sound trace → Fits trace e → Good trace e → Ground trace → is_open trace u ≡ true →
    is_unit_of u e ≡ false → (st : Statement) → reach_now u (trace says e) st ≡ reach_now u trace st
reach-stays trace e u s f g ground o d st =
    (λ i. reach (filter_map table_of_definition ((kept-stays trace e u s f g o d).definitions i)) (vars i) st)
  where
    vars : (run_of u (trace says e)).vars ≡ (run_of u trace).vars
    vars = ap (λ (r : UnitRun). r.vars) (others trace e u ground g o d).1
