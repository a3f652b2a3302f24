-- Where openings are not early none names a program, so none is covered, left out or freed.
use Rattle.law_story.proofs.Replays.{good-event, replays}
use Rattle.law_story.proofs.WholeLaw.{taken-same}
use Rattle.law_story.specs.AsEver.{IsAsEver}
use Rattle.salt_ast.specs.declared.lines.Act.{Act}
use Rattle.salt_ast.specs.declared.lines.Act.TheVariants.{Call}
use Rattle.salt_model.specs.After.{kept}
use Rattle.salt_model.specs.Kept.{kept_program}
use Rattle.salt_model.specs.Locks.{as_held, base_tables, cover, cover_of, is_holding}
use Rattle.salt_model.specs.Openings.{unfinished}
use Rattle.salt_model.specs.Played.{IsPlayed}
use Rattle.salt_model.specs.Programs.{accepted_in, freed_by, left_out, named_early, over_in, released_in}
use Rattle.salt_model.specs.Reads.{releasable}
use Rattle.salt_model.specs.Refusals.{is_base_program, is_held_back}
use Rattle.salt_model.specs.Trace.{Trace, from, start_of, ◌asks◌, ◌says◌, ◌turns◌}
use Rattle.salt_model.specs.Turns.{can_go, next_to_go, owes_turn}
use Rattle.salt_model.specs.Words.{first_of_list}
use Rattle.salt_model.specs.declared.events.Event.TheVariants.{Early}
use Rattle.salt_values.specs.Id.{in_order, without}
use Rattle.salt_values.specs.declared.id.Id.{Id}
use Rattle.std.proofs.Common.{ap, sym, ◌∙◌}
use Rattle.std.specs.List.{filter_map, find, list_any}
use Rattle.std.specs.Option.{option_or}
use Rattle.std.specs.Prelude.{Bool, List, None, Option, [], cond, false, refl, true, ◌&&◌, ◌++◌, ◌∷◌, ◌≡◌}

none-early : (trace : Trace) (bs : List Id) → IsPlayed (trace says Early bs) → (start_of trace).early ≡ false → ⊥
none-early trace bs p n =
    let g = good-event trace (Early bs) (replays trace p.0) p.1 in let x : true ≡ false = sym g.1 ∙ n in cc

none-named : (trace : Trace) → IsPlayed trace → (start_of trace).early ≡ false → named_early trace ≡ []
none-named (from k) p n = refl
none-named (trace asks line) p n = none-named trace p.0 n
none-named (trace turns b) p n = none-named trace p.0 n
none-named (trace says Early bs) p n = absurd (none-early trace bs p n)
none-named (trace says e) p n = none-named trace p.0 n

none-left : (trace : Trace) → IsPlayed trace → (start_of trace).early ≡ false → left_out trace ≡ []
none-left (from k) p n = refl
none-left (trace asks line) p n = none-left trace p.0 n
none-left (trace turns b) p n = none-left trace p.0 n
none-left (trace says Early bs) p n = absurd (none-early trace bs p n)
none-left (trace says e) p n = none-left trace p.0 n

none-freed : (bs : List Id) (trace : Trace) → IsPlayed trace → (start_of trace).early ≡ false → freed_by bs trace ≡ []
none-freed bs (from k) p n = refl
none-freed bs (trace asks line) p n = none-freed bs trace p.0 n
none-freed bs (trace turns b) p n = none-freed bs trace p.0 n
none-freed bs (trace says Early cs) p n = absurd (none-early trace cs p n)
none-freed bs (trace says e) p n = none-freed bs trace p.0 n

without-none : (us : List Id) → without [] us ≡ us
without-none [] = refl
without-none (u ∷ us) = ap (λ l. u ∷ l) (without-none us)

pub as-ever : (trace : Trace) → IsPlayed trace → (start_of trace).early ≡ false → IsAsEver trace
as-ever trace p n = record {
  left = left;
  over = over;
  released = λ bs. ap (λ l. l ++ (released_in trace ++ bs)) (none-freed bs trace p n);
  unreleased = ap (λ l. in_order (without l (accepted_in trace))) over;
  due = ap (λ l. without l (releasable trace)) left ∙ without-none (releasable trace);
  held = λ i. uncovered i ++ filter_map (as_held trace) (taken-same trace p n i);
  turn = ap (λ l. option_or (next_to_go trace) (cond (owes_turn trace) (find (can_go trace) l) None)) named ∙ none-owed (next_to_go trace) (owes_turn trace);
  taken = takes;
  drain = λ c cs. ap (λ t. unfinished t trace c cs) n;
}
  where
    named : named_early trace ≡ []
    named = none-named trace p n

    left : left_out trace ≡ []
    left = none-left trace p n

    over : over_in trace ≡ released_in trace
    over = ap (λ l. l ++ released_in trace) (none-left trace p n)

    uncovered : cover trace ≡ []
    uncovered = ap (λ l. cover_of (released_in trace) (base_tables (kept trace)) (first_of_list l)) (none-named trace p n)

    none-owed : (o : Option Id) (t : Bool) → option_or o (cond t None None) ≡ o
    none-owed None true = refl
    none-owed None false = refl
    none-owed o t = refl

    takes : (act : Act) → is_held_back trace act ≡ false
    takes (Call name args) = ap (λ l. list_any (is_holding trace) l && is_base_program (kept_program name (kept trace))) (none-named trace p n)
    takes act = refl
