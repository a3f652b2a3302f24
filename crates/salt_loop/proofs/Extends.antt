-- A played trace is told by its lines and its story: where another one has more of both, it goes on from this one.
use Rattle.law_states.proofs.PointsGoOn.{story-on}
use Rattle.law_states.specs.Points.{Ask, TraceStep, Say, Turn, stepped, told_by, trace_on}
use Rattle.salt_model.specs.Next.{next}
use Rattle.salt_model.specs.Phases.{Phase, Serving, phase}
use Rattle.salt_model.specs.Played.{IsPlayed}
use Rattle.salt_model.specs.Segments.{IsComplete, May}
use Rattle.salt_model.specs.Stops.{MayFall, MayOpen, is_device_next}
use Rattle.salt_model.specs.Trace.{Asked, Start, Trace, from, lines_asked, start_of, story_of, ◌asks◌, ◌says◌, ◌turns◌}
use Rattle.salt_model.specs.Turns.{next_turn}
use Rattle.salt_model.specs.declared.events.Event.{Event}
use Rattle.salt_model.specs.declared.events.Event.TheVariants.{Down, Opened}
use Rattle.salt_model.specs.declared.events.Why.{Why}
use Rattle.salt_promise.specs.Doing.{story_before_line}
use Rattle.salt_values.specs.declared.id.Id.{Id}
use Rattle.std.proofs.Common.{ap, subst, sym, ◌∙◌}
use Rattle.std.specs.Prelude.{IsTrue, List, None, Option, Some, [], false, refl, true, ℕ, ◌++◌, ◌∷◌, ◌≡◌}

-- a trace by its moves

abbrev moves_of : Trace → List TraceStep
moves_of (from k) = []
moves_of (trace asks asked) = moves_of trace ++ Ask asked ∷ []
moves_of (trace turns b) = moves_of trace ++ Turn b ∷ []
moves_of (trace says e) = moves_of trace ++ Say e ∷ []

on-both : (trace : Trace) (ms ns : List TraceStep) → trace_on trace (ms ++ ns) ≡ trace_on (trace_on trace ms) ns
on-both trace [] ns = refl
on-both trace (m ∷ ms) ns = on-both (stepped trace m) ms ns

by-moves : (trace : Trace) → trace ≡ trace_on (from (start_of trace)) (moves_of trace)
by-moves (from k) = refl
by-moves (trace asks asked) = ap (λ t. t asks asked) (by-moves trace) ∙ sym (on-both (from (start_of trace)) (moves_of trace) (Ask asked ∷ []))
by-moves (trace turns b) = ap (λ t. t turns b) (by-moves trace) ∙ sym (on-both (from (start_of trace)) (moves_of trace) (Turn b ∷ []))
by-moves (trace says e) = ap (λ t. t says e) (by-moves trace) ∙ sym (on-both (from (start_of trace)) (moves_of trace) (Say e ∷ []))

abbrev asked_in : List TraceStep → List Asked
asked_in [] = []
asked_in (Ask asked ∷ ms) = asked ∷ asked_in ms
asked_in (Turn b ∷ ms) = asked_in ms
asked_in (Say e ∷ ms) = asked_in ms

append-one : (xs ys : List Asked) (x : Asked) → (xs ++ x ∷ []) ++ ys ≡ xs ++ x ∷ ys
append-one [] ys x = refl
append-one (y ∷ xs) ys x = ap (λ l. y ∷ l) (append-one xs ys x)

nil-behind : (xs : List Asked) → xs ++ [] ≡ xs
nil-behind [] = refl
nil-behind (x ∷ xs) = ap (λ l. x ∷ l) (nil-behind xs)

lines-on : (ms : List TraceStep) (trace : Trace) → lines_asked (trace_on trace ms) ≡ lines_asked trace ++ asked_in ms
lines-on [] trace = sym (nil-behind (lines_asked trace))
lines-on (Ask asked ∷ ms) trace = lines-on ms (trace asks asked) ∙ append-one (lines_asked trace) (asked_in ms) asked
lines-on (Turn b ∷ ms) trace = lines-on ms (trace turns b)
lines-on (Say e ∷ ms) trace = lines-on ms (trace says e)

-- what is played and up is so before its last moves

played-before : (ms : List TraceStep) (trace : Trace) → IsPlayed (trace_on trace ms) → IsPlayed trace
played-before [] trace p = p
played-before (Ask asked ∷ ms) trace p = (played-before ms (trace asks asked) p).0
played-before (Turn b ∷ ms) trace p = (played-before ms (trace turns b) p).0
played-before (Say e ∷ ms) trace p = (played-before ms (trace says e) p).0

-- while serving, no event may stand where none comes next

no-opening : (p : Phase) (trace : Trace) (boot n : ℕ) → p ≡ Serving → MayOpen p trace boot n → ⊥
no-opening Serving trace boot n s m = m
no-opening p trace boot n s m = absurd cc

no-fall : (p : Phase) (trace : Trace) (why : Why) → p ≡ Serving → next trace ≡ None → MayFall p trace why → ⊥
no-fall Serving trace why s none m = untrue (subst (λ (o : Option Event). IsTrue (is_device_next trace o)) none m)
  where
    untrue : false ≡ true → ⊥
    untrue e = cc
no-fall p trace why s none m = absurd cc

differ : {A : Type 0} (o : Option A) (x : A) → o ≡ None → o ≡ Some x → ⊥
differ o x n s = cc

none-stands : (trace : Trace) (e : Event) → phase trace ≡ Serving → next trace ≡ None → May trace e → ⊥
none-stands trace (Down why) s none m = no-fall (phase trace) trace why s none m
none-stands trace (Opened boot n) s none m = no-opening (phase trace) trace boot n s m
none-stands trace e s none m = differ (next trace) e none m

-- so two played traces that stand at one place go on by one move, as far as their lines and stories are the same

same-id : (o : Option Id) (b c : Id) → o ≡ Some b → o ≡ Some c → b ≡ c
same-id o b c f g = cc

head : {A : Type 0} (x y : A) (xs ys : List A) → x ∷ xs ≡ y ∷ ys → x ≡ y
head x y xs ys e = cc

tail : {A : Type 0} (x y : A) (xs ys : List A) → x ∷ xs ≡ y ∷ ys → xs ≡ ys
tail x y xs ys e = cc

not-empty : {A : Type 0} (x : A) (xs : List A) → [] ≡ x ∷ xs → ⊥
not-empty x xs e = cc

nothing-asked : (xs : List Asked) (x : Asked) → [] ≡ xs ++ x ∷ [] → ⊥
nothing-asked [] x e = cc
nothing-asked (y ∷ xs) x e = cc

abbrev GoesOn : List TraceStep → List TraceStep → Type 0
GoesOn ms ns = (rest : List TraceStep) × (ns ≡ ms ++ rest)

also : (m n : TraceStep) (ms ns : List TraceStep) → n ≡ m → GoesOn ms ns → GoesOn (m ∷ ms) (n ∷ ns)
also m n ms ns same g = (g.0, ap (λ x. x ∷ ns) same ∙ ap (λ l. m ∷ l) g.1)

-- after the second's moves one more line is asked, and its story has gained events
goes-on : (trace : Trace) (ms ns : List TraceStep) (asked : Asked) (more : List Event) → IsPlayed (trace_on trace ms) → IsPlayed (trace_on trace ns) →
    asked_in ns ≡ asked_in ms ++ asked ∷ [] → told_by ns ≡ told_by ms ++ more → GoesOn ms ns
goes-on trace [] ns asked more p q lines story = (ns, refl)
goes-on trace (m ∷ ms) [] asked more p q lines story = absurd (nothing-asked (asked_in (m ∷ ms)) asked lines)
goes-on trace (Ask a ∷ ms) (Ask b ∷ ns) asked more p q lines story =
    let e = head b a (asked_in ns) (asked_in ms ++ asked ∷ []) lines in
    also (Ask a) (Ask b) ms ns (ap Ask e)
    (goes-on (trace asks a) ms ns asked more p (subst (λ x. IsPlayed (trace_on (trace asks x) ns)) e q)
    (tail b a (asked_in ns) (asked_in ms ++ asked ∷ []) lines) story)
goes-on trace (Turn b ∷ ms) (Turn c ∷ ns) asked more p q lines story =
    let e = same-id (next_turn trace) c b (played-before ns (trace turns c) q).3 (played-before ms (trace turns b) p).3 in
    also (Turn b) (Turn c) ms ns (ap Turn e)
    (goes-on (trace turns b) ms ns asked more p (subst (λ x. IsPlayed (trace_on (trace turns x) ns)) e q) lines story)
goes-on trace (Say e ∷ ms) (Say f ∷ ns) asked more p q lines story =
    let i = head f e (told_by ns) (told_by ms ++ more) story in
    also (Say e) (Say f) ms ns (ap Say i)
    (goes-on (trace says e) ms ns asked more p (subst (λ x. IsPlayed (trace_on (trace says x) ns)) i q)
    lines (tail f e (told_by ns) (told_by ms ++ more) story))
goes-on trace (Ask a ∷ ms) (Turn c ∷ ns) asked more p q lines story =
    absurd (differ (next_turn trace) c (played-before ms (trace asks a) p).1.2 (played-before ns (trace turns c) q).3)
goes-on trace (Turn b ∷ ms) (Ask a ∷ ns) asked more p q lines story =
    absurd (differ (next_turn trace) b (played-before ns (trace asks a) q).1.2 (played-before ms (trace turns b) p).3)
goes-on trace (Ask a ∷ ms) (Say f ∷ ns) asked more p q lines story =
    let c = (played-before ms (trace asks a) p).1 in
    absurd (none-stands trace f c.0 c.1 (played-before ns (trace says f) q).1)
goes-on trace (Say e ∷ ms) (Ask a ∷ ns) asked more p q lines story =
    let c = (played-before ns (trace asks a) q).1 in
    absurd (none-stands trace e c.0 c.1 (played-before ms (trace says e) p).1)
goes-on trace (Turn b ∷ ms) (Say f ∷ ns) asked more p q lines story =
    let t = played-before ms (trace turns b) p in
    absurd (none-stands trace f t.1 t.2 (played-before ns (trace says f) q).1)
goes-on trace (Say e ∷ ms) (Turn b ∷ ns) asked more p q lines story =
    let t = played-before ns (trace turns b) q in
    absurd (none-stands trace e t.1 t.2 (played-before ms (trace says e) p).1)

-- the other trace is this one with more moves
pub extends : (trace after : Trace) (asked : Asked) (more : List Event) → start_of after ≡ start_of trace → IsPlayed trace → IsPlayed after →
    lines_asked after ≡ lines_asked trace ++ asked ∷ [] → story_of after ≡ story_of trace ++ more → (rest : List TraceStep) × (after ≡ trace_on trace rest)
extends trace after asked more start p q lines story = (g.0, there)
  where
    k : Start
    k = start_of trace

    ms : List TraceStep
    ms = moves_of trace

    ns : List TraceStep
    ns = moves_of after

    one : trace ≡ trace_on (from k) ms
    one = by-moves trace

    other : after ≡ trace_on (from k) ns
    other = by-moves after ∙ ap (λ s. trace_on (from s) ns) start

    same-lines : asked_in ns ≡ asked_in ms ++ asked ∷ []
    same-lines = sym (lines-on ns (from k)) ∙ ap lines_asked (sym other) ∙ lines ∙ ap (λ ls. ls ++ asked ∷ []) (ap lines_asked one ∙ lines-on ms (from k))

    same-story : told_by ns ≡ told_by ms ++ more
    same-story = sym (story-on ns (from k)) ∙ ap story_of (sym other) ∙ story ∙ ap (λ es. es ++ more) (ap story_of one ∙ story-on ms (from k))

    g : GoesOn ms ns
    g = goes-on (from k) ms ns asked more (subst IsPlayed one p) (subst IsPlayed other q) same-lines same-story

    there : after ≡ trace_on trace g.0
    there = other ∙ ap (trace_on (from k)) g.1 ∙ on-both (from k) ms g.0 ∙ ap (λ t. trace_on t g.0) (sym one)

-- the line that is asked behind a complete trace is the last one

asked-none : (xs : List Asked) (x : Asked) → xs ≡ xs ++ x ∷ [] → ⊥
asked-none [] x e = cc
asked-none (y ∷ xs) x e = asked-none xs x (tail y y xs (xs ++ x ∷ []) e)

none-behind : (xs ys : List Asked) (x y : Asked) → xs ++ x ∷ ys ≡ xs ++ y ∷ [] → ys ≡ []
none-behind [] ys x y e = tail x y ys [] e
none-behind (z ∷ xs) ys x y e = none-behind xs ys x y (tail z z (xs ++ x ∷ ys) (xs ++ y ∷ []) e)

same-line : (ms : List TraceStep) (trace : Trace) → asked_in ms ≡ [] → story_before_line (trace_on trace ms) ≡ story_before_line trace
same-line [] trace h = refl
same-line (Ask a ∷ ms) trace h = absurd (not-empty a (asked_in ms) (sym h))
same-line (Turn b ∷ ms) trace h = same-line ms (trace turns b) h
same-line (Say e ∷ ms) trace h = same-line ms (trace says e) h

before-asked : (ms : List TraceStep) (trace : Trace) (asked : Asked) → IsComplete trace → IsPlayed (trace_on trace ms) → lines_asked (trace_on trace ms) ≡ lines_asked trace ++ asked ∷ [] →
    story_before_line (trace_on trace ms) ≡ story_of trace
before-asked [] trace asked c p lines = absurd (asked-none (lines_asked trace) asked lines)
before-asked (Say e ∷ ms) trace asked c p lines = absurd (none-stands trace e c.0 c.1 (played-before ms (trace says e) p).1)
before-asked (Turn b ∷ ms) trace asked c p lines = absurd (differ (next_turn trace) b c.2 (played-before ms (trace turns b) p).3)
before-asked (Ask a ∷ ms) trace asked c p lines =
    same-line ms (trace asks a)
    (none-behind (lines_asked trace) (asked_in ms) a asked (sym (append-one (lines_asked trace) (asked_in ms) a) ∙ sym (lines-on ms (trace asks a)) ∙ lines))

pub before-line : (trace after : Trace) (asked : Asked) (more : List Event) → IsComplete trace → start_of after ≡ start_of trace → IsPlayed trace → IsPlayed after →
    lines_asked after ≡ lines_asked trace ++ asked ∷ [] → story_of after ≡ story_of trace ++ more → story_before_line after ≡ story_of trace
before-line trace after asked more c start p q lines story =
    let x = extends trace after asked more start p q lines story in
    ap story_before_line x.1 ∙ before-asked x.0 trace asked c (subst IsPlayed x.1 q) (sym (ap lines_asked x.1) ∙ lines)
