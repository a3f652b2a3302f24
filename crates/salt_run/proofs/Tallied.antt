-- Faults and stops, as a run counts them.
use Rattle.law_story.proofs.Arming.{armed-same}
use Rattle.salt_ast.specs.declared.lines.Line.TheVariants.{Nothing}
use Rattle.salt_ast.specs.declared.lines.Line.{Line}
use Rattle.salt_disk.specs.Disks.{Rose, View}
use Rattle.salt_driver.proofs.Along.{along-both}
use Rattle.salt_driver.specs.Along.{armed_along}
use Rattle.salt_driver.specs.Counting.{CountsOpening}
use Rattle.salt_loop.proofs.Armed.{opening-stays}
use Rattle.salt_model.specs.Arming.{armed_behind, armed_by, armed_by_lines}
use Rattle.salt_model.specs.Played.{Tells}
use Rattle.salt_model.specs.Trace.{Start, Trace, from, line_of, lines_asked, story_of, ◌asks◌, ◌says◌, ◌turns◌}
use Rattle.salt_model.specs.declared.events.Event.TheVariants.{Down}
use Rattle.salt_model.specs.declared.events.Event.{Event}
use Rattle.salt_model.specs.declared.events.Why.TheVariants as why
use Rattle.salt_promise.specs.Counting.{Downs, RiseBehind, RiseTo, Stops}
use Rattle.salt_promise.specs.declared.status.Status.{Status}
use Rattle.salt_promise.specs.declared.status.Status.TheVariants.{DiskFault}
use Rattle.salt_loop.specs.Counted.{AreFaults, AreFaultsOf, AreMet}
use Rattle.salt_run.proofs.Unwritten.{not-nil}
use Rattle.std.proofs.Common.{ap, arith, sym, ◌∙◌}
use Rattle.std.specs.Prelude.{List, None, Option, Some, [], false, option_and_then, refl, ℕ, ◌∷◌, ◌≡◌, ◌≤◌}

met-as : (e : Event) (a n : ℕ) → AreMet e a n → RiseTo e a n
met-as (Down why.Fault) a n h = h
met-as (Down why.Stopped) a n h = h
met-as e a n h = h

-- they rise so far along the story, and then as its end has it
module _ (status : Status) (most last : ℕ) (behind : (a : ℕ) → a ≤ most → RiseBehind status a last) where
  falls : (first : ℕ) (story : List Event) → AreFaults first story most → Downs status first story last
  falls first [] h = behind first h
  falls first (e ∷ es) h = (h.0, met-as e first h.0 h.1, falls h.0 es h.2)

rose-from : (a n last : ℕ) → a ≤ n → Rose n last → Rose a last
rose-from a n last h g = omega arith

pub downs-of : (status : Status) (first : ℕ) (story : List Event) (last : ℕ) → AreFaultsOf status first story last → Downs status first story last
downs-of DiskFault first story last h = falls DiskFault h.0 last (λ a low. (let most = h.2 in omega arith, rose-from a h.0 last low h.3)) first story h.1
downs-of status first story last h = falls status last last (λ a low. low) first story h

-- STOPS, where no line was asked

unasked-line : (trace : Trace) → lines_asked trace ≡ [] → line_of trace ≡ Nothing
unasked-line (from k) none = refl
unasked-line (trace asks asked) none = absurd (not-nil (lines_asked trace) asked none)
unasked-line (trace turns b) none = unasked-line trace none
unasked-line (trace says e) none = unasked-line trace none

unasked-along : (trace : Trace) → lines_asked trace ≡ [] → (first : List (ℕ × ℕ)) → armed_by_lines first trace ≡ armed_along Nothing (story_of trace) (Some first)
unasked-along (from k) none first = refl
unasked-along (trace asks asked) none first = absurd (not-nil (lines_asked trace) asked none)
unasked-along (trace turns b) none first = unasked-along trace none first
unasked-along (trace says e) none first =
    ap (option_and_then (armed_by (line_of trace) e)) (unasked-along trace none first)
    ∙ ap (λ (line : Line). option_and_then (armed_by line e) (armed_along Nothing (story_of trace) (Some first))) (unasked-line trace none)
    ∙ sym (along-both Nothing (story_of trace) (e ∷ []) (Some first))

along-none : (line : Line) (es : List Event) → armed_along line es None ≡ None
along-none line [] = refl
along-none line (e ∷ es) = along-none line es

behind-none : (es : List Event) → armed_behind es None ≡ None
behind-none [] = refl
behind-none (e ∷ es) = refl

-- a story without its lines tells the same
pub behind-along : (es : List Event) (stops : Option (List (ℕ × ℕ))) → armed_along Nothing es stops ≡ armed_behind es stops
behind-along es None = along-none Nothing es ∙ sym (behind-none es)
behind-along [] (Some first) = refl
behind-along (e ∷ es) (Some first) = behind-along es (armed_by Nothing e first)

pub unasked-armed : (trace : Trace) → lines_asked trace ≡ [] → (first : List (ℕ × ℕ)) → armed_by_lines first trace ≡ armed_behind (story_of trace) (Some first)
unasked-armed trace none first = unasked-along trace none first ∙ behind-along (story_of trace) (Some first)

-- these are left where the devices are found
pub armed-at-first : (d mid : View) (start : Start) (trace : Trace) (story : List Event) → Tells start trace story → lines_asked trace ≡ [] → CountsOpening d mid None [] story →
    armed_by_lines d.armed trace ≡ Some mid.armed
armed-at-first d mid start trace story tells unasked counts =
    opening-stays d mid [] story counts (from start) trace (story, refl)
    (λ first. unasked-along trace unasked first ∙ ap (λ (es : List Event). armed_along Nothing es (Some first)) tells.told) d.armed refl

-- STOPS, where commits do not go over messages: each is armed by a `crash`, and so the story tells it
pub stops-by-story : (status : Status) (first : List (ℕ × ℕ)) (start : Start) (trace : Trace) (story : List Event) (last : List (ℕ × ℕ)) → Tells start trace story →
    start.over_net ≡ false → Stops status (armed_by_lines first trace) last → Stops status (armed_behind story (Some first)) last
stops-by-story status first start trace story last tells off h = record {
  stops = h.stops;
  behind =
      sym (armed-same trace tells.played (ap (λ (s : Start). s.over_net) tells.begins ∙ off) first
      ∙ ap (λ (es : List Event). armed_behind es (Some first)) tells.told) ∙ h.behind;
  are = h.are;
}
