-- The text of a story that goes on: what was told reads as it did, under the tables that are defined now.
use Rattle.salt_ast.specs.declared.trees.TableDef.{TableDef}
use Rattle.law_states.specs.Points.{Ask, TraceStep, Say, Turn, trace_on}
use Rattle.salt_model.specs.After.{kept}
use Rattle.salt_model.specs.EventTexts.{event_text, story_text}
use Rattle.salt_model.specs.Kept.{WellKept, schema_of}
use Rattle.salt_model.specs.Played.{IsPlayed, Tells}
use Rattle.salt_model.specs.Trace.{Asked, Start, Trace, from, lines_asked, start_of, story_of, ◌asks◌, ◌says◌, ◌turns◌}
use Rattle.salt_model.specs.declared.events.Event.{Event}
use Rattle.salt_promise.specs.Doing.{IsFrontOf, story_before_line, text_under}
use Rattle.salt_loop.proofs.Extends.{extends}
use Rattle.salt_driver.specs.Serving.{GainsEvents as HasGrown}
use Rattle.law_types.proofs.ShownWithin.{shown-within}
use Rattle.law_types.proofs.Stays.{story-stays}
use Rattle.law_types.proofs.WithinSchema.{schema-grows}
use Rattle.law_types.specs.Growing.{Grows}
use Rattle.std.proofs.Common.{ap, append-nil, append_assoc, subst, sym, ◌∙◌}
use Rattle.std.specs.Prelude.{List, [], drop, length, refl, ◌++◌, ◌∷◌, ◌≡◌}

pub text-append : (schema : List TableDef) (story more : List Event) → story_text schema (story ++ more) ≡ story_text schema story ++ story_text schema more
text-append schema [] more = refl
text-append schema (e ∷ story) more =
    ap (λ t. event_text schema e ++ t) (text-append schema story more) ∙ sym (append_assoc (event_text schema e) (story_text schema story) (story_text schema more))

drop-front : {A : Type 0} (xs ys : List A) → drop (length xs) (xs ++ ys) ≡ ys
drop-front [] ys = refl
drop-front (x ∷ xs) ys = drop-front xs ys

-- tables are not taken away by moves

grows-by : (a b c : List TableDef) → Grows a b → Grows b c → Grows a c
grows-by a b c g h = record { more = g.more ++ h.more; is = h.is ∙ ap (λ l. l ++ h.more) g.is ∙ append_assoc a g.more h.more }

grows-not : (a : List TableDef) → Grows a a
grows-not a = record { more = []; is = sym (append-nil a) }

grows-on : (ms : List TraceStep) (trace : Trace) → Grows (schema_of (kept trace)) (schema_of (kept (trace_on trace ms)))
grows-on [] trace = grows-not (schema_of (kept trace))
grows-on (Ask asked ∷ ms) trace = grows-on ms (trace asks asked)
grows-on (Turn b ∷ ms) trace = grows-on ms (trace turns b)
grows-on (Say e ∷ ms) trace =
    grows-by (schema_of (kept trace)) (schema_of (kept (trace says e))) (schema_of (kept (trace_on (trace says e) ms))) (schema-grows trace e) (grows-on ms (trace says e))

-- a played trace's story reads the same when there are more tables
stays-on : (ms : List TraceStep) (trace : Trace) → IsPlayed trace → WellKept (start_of trace).kept → text_under (trace_on trace ms) (story_of trace) ≡ text_under trace (story_of trace)
stays-on ms trace p w =
    let g = grows-on ms trace in
    ap (λ schema. story_text schema (story_of trace)) g.is ∙ story-stays (schema_of (kept trace)) g.more (story_of trace) (shown-within trace p w)

-- the text of a trace that has gone on by a line: that of the story before, as it was, and that of the events added
pub grown-text : (start : Start) (trace after : Trace) (asked : Asked) (story told : List Event) → WellKept start.kept → Tells start trace story → Tells start after told →
    lines_asked after ≡ lines_asked trace ++ asked ∷ [] → HasGrown story told →
    (text_under after story ≡ text_under trace story) × (text_under after told ≡ text_under trace story ++ text_under after (drop (length story) told))
grown-text start trace after asked story told well one other lines grows = (same, whole)
  where
    longer : (rest : List TraceStep) × (after ≡ trace_on trace rest)
    longer = extends trace after asked grows.0 (other.begins ∙ sym one.begins) one.played other.played lines (other.told ∙ grows.1 ∙ ap (λ es. es ++ grows.0) (sym one.told))

    same : text_under after story ≡ text_under trace story
    same = ap (λ t. text_under t story) longer.1
        ∙ subst (λ es. text_under (trace_on trace longer.0) es ≡ text_under trace es) one.told (stays-on longer.0 trace one.played (subst (λ (x : Start). WellKept x.kept) (sym one.begins) well))

    added : grows.0 ≡ drop (length story) told
    added = sym (drop-front story grows.0) ∙ ap (drop (length story)) (sym grows.1)

    whole : text_under after told ≡ text_under trace story ++ text_under after (drop (length story) told)
    whole = ap (text_under after) grows.1 ∙ text-append (schema_of (kept after)) story grows.0
        ∙ ap (λ t. t ++ text_under after grows.0) same ∙ ap (λ es. text_under trace story ++ text_under after es) added

-- a trace's story begins with that before its last line
pub story-begins : (trace : Trace) → IsFrontOf (story_before_line trace) (story_of trace)
story-begins (from k) = ([], refl)
story-begins (trace asks asked) = ([], sym (append-nil (story_of trace)))
story-begins (trace turns b) = story-begins trace
story-begins (trace says e) = let h = story-begins trace in (h.0 ++ e ∷ [], ap (λ s. s ++ e ∷ []) h.1 ∙ append_assoc (story_before_line trace) h.0 (e ∷ []))

pub text-begins : (trace : Trace) (story : List Event) → story_of trace ≡ story → IsFrontOf (text_under trace (story_before_line trace)) (text_under trace story)
text-begins trace story is =
    let h = story-begins trace in
    (text_under trace h.0, ap (text_under trace) (sym is ∙ h.1) ∙ text-append (schema_of (kept trace)) (story_before_line trace) h.0)
