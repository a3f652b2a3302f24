-- A line goes on behind a fall, or a run ends there.
use Rattle.law_states.specs.Points.{Point}
use Rattle.law_states.specs.States.{State}
use Rattle.salt_ast.specs.declared.lines.Line.{Line}
use Rattle.salt_disk.specs.Disks.{View}
use Rattle.salt_model.specs.Trace.{Asked, Start, Trace, line_asked, lines_asked}
use Rattle.salt_model.specs.declared.events.Event.{Event}
use Rattle.salt_model.specs.declared.events.Flight.{Flight}
use Rattle.salt_promise.specs.declared.status.Status.TheVariants.{Done}
use Rattle.salt_loop.proofs.Armed.{ends-resumed, line-halts, line-stays, stays-resumed}
use Rattle.salt_loop.proofs.Leaving.{idle-halts}
use Rattle.salt_loop.specs.Counted.{CountsResumed}
use Rattle.salt_loop.specs.Stopping.{IsLaterStop, outcome, status_of}
use Rattle.salt_loop.specs.Serving.{AsksMore, BreaksIn, ContinuesRun, EndsResuming, EndsIn, TextAsks, line_behind, moment}
use Rattle.salt_loop.specs.declared.stop.Stop.TheVariants as stop
use Rattle.salt_loop.specs.declared.stop.Stop.{Stop}
use Rattle.salt_driver.specs.Devices.{OnDevices}
use Rattle.salt_driver.specs.Counting.{CountsMore}
use Rattle.salt_driver.specs.Reopening.{ReopensRun}
use Rattle.salt_driver.specs.Serving.{BreaksByLine, GoesByLine, GainsEvents, ServesTrace}
use Rattle.salt_driver.specs.Standing.{IsIdleAt, IsSoundPoint}
use Rattle.salt_storage.specs.Answers.{disk_err, disk_err_of}
use Rattle.salt_storage.specs.declared.halt.Halt.TheVariants.{Memory}
use Rattle.salt_storage.specs.declared.halt.Halt.{Halt}
use Rattle.std.proofs.Common.{ap, append-nil, append_assoc, inl, inr, sym, ◌∙◌}
use Rattle.std.specs.Prelude.{Err, List, None, Ok, Option, Result, Some, [], refl, ℕ, ◌++◌, ◌∷◌, ◌≡◌, ◌⊎◌}
use Rattle.std.specs.Result.{IfErr, OnOk}

grown : (story mid told : List Event) → (a : GainsEvents story mid) → (b : GainsEvents mid told) → told ≡ story ++ (a.0 ++ b.0)
grown story mid told a b = b.1 ∙ ap (λ es. es ++ b.0) a.1 ∙ append_assoc story a.0 b.0

asks-still : (text : Option (List ℕ)) (trace mid after : Trace) → lines_asked after ≡ lines_asked mid → AsksMore text trace mid → AsksMore text trace after
asks-still text trace mid after same a = (a.0, a.1, same ∙ a.2)

pub continues-by : (stands_for : Option Event → State → Type 0) (start : Start) (trace : Trace) (text : Option (List ℕ)) (asked : Asked) (story told : List Event) →
    (a b : View) → TextAsks text asked → CountsMore (line_asked asked) a b None None story told → GoesByLine stands_for start trace asked story told → ContinuesRun stands_for (line_behind start trace text) (moment story a.armed) (moment told b.armed)
continues-by stands_for start trace text asked story told a b asks counts g = record {
  after = g.after;
  asks = (asked, asks, g.asks);
  serves = g.serves;
  grows = g.grows;
  armed = line-stays (line_asked asked) a b story told trace g.after g.grows g.armed counts;
}

pub breaks-by : (devices : OnDevices) (flies : Option Flight) (halt : Halt) (start : Start) (trace : Trace) (text : Option (List ℕ)) (asked : Asked) (story told : List Event) →
    (a c : View) → TextAsks text asked → CountsMore (line_asked asked) a c (Some (disk_err_of halt)) None story told → BreaksByLine devices flies halt start trace asked story told →
    BreaksIn devices flies halt (line_behind start trace text) (moment story a.armed) (moment told c.armed)
breaks-by devices flies halt start trace text asked story told a c asks counts b = record {
  after = b.after;
  asks = by b.asks;
  halts = b.halts;
  grows = b.grows;
  armed = line-halts (line_asked asked) a c story told trace b.after b.grows b.armed (disk_err_of halt) counts;
}
  where
    by : (lines_asked b.after ≡ lines_asked trace ++ asked ∷ []) ⊎ ((halt ≡ Memory) × (b.after ≡ trace)) → AsksMore text trace b.after ⊎ ((halt ≡ Memory) × (b.after ≡ trace))
    by (inl more) = inl (asked, asks, more)
    by (inr m) = inr m

-- memory ran out before the line was read
pub breaks-unread : {E : Type 0} (stands_for : E → Option Event → State → Type 0) (devices : OnDevices) (flies : Option Flight) (e : E) →
    ((p : Point) → IsSoundPoint p → IsIdleAt (stands_for e) p → devices.can_reopen_at 0 p) → ((p : Point) → IsSoundPoint p → IsIdleAt (stands_for e) p → flies ≡ None) →
    ((room : ℕ) (p : Point) → devices.can_reopen_at room p → devices.stands_for_kept None room p) → (start : Start) (trace : Trace) (text : Option (List ℕ)) (story : List Event) → (armed : List (ℕ × ℕ)) → ServesTrace (stands_for e) start story trace →
    BreaksIn devices flies Memory (line_behind start trace text) (moment story armed) (moment story armed)
breaks-unread stands_for devices flies e idle flown leaves start trace text story armed s = record {
  after = trace;
  asks = inr (refl, refl);
  halts = idle-halts stands_for devices flies e idle flown leaves start trace story s;
  grows = ([], sym (append-nil story));
  armed = λ first is. (armed, is, λ some. absurd (some refl));
}

module _ (old_devices : OnDevices) (old_flies : Option Flight) (halt : Halt) (start : Start) (trace : Trace) (text : Option (List ℕ))
    (story mid told : List Event) (a b c : View) (br : BreaksIn old_devices old_flies halt (line_behind start trace text) (moment story a.armed) (moment mid b.armed)) where
  pub continues-behind : (stands_for : Option Event → State → Type 0) → (halt ≡ Memory → ⊥) → CountsResumed halt b c Done mid told → ReopensRun stands_for start br.after mid told →
      ContinuesRun stands_for (line_behind start trace text) (moment story a.armed) (moment told c.armed)
  continues-behind stands_for some h r = record {
    after = r.after;
    asks = by br.asks;
    serves = r.serves;
    grows = (br.grows.0 ++ r.grows.0, grown story mid told br.grows r.grows);
    armed = stays-resumed trace br.after mid told a b c r.after r.grows r.along.armed halt br.armed h;
  }
    where
      by : AsksMore text trace br.after ⊎ ((halt ≡ Memory) × (br.after ≡ trace)) → AsksMore text trace r.after
      by (inl more) = asks-still text trace br.after r.after r.lines more
      by (inr m) = absurd (some m.0)

  pub ends-behind : (devices : OnDevices) (flies : Option Flight) (s : Stop) → CountsResumed halt b c (status_of s) mid told →
      EndsResuming devices flies halt s start br.after mid told → EndsIn devices flies s (line_behind start trace text) (moment story a.armed) (moment told c.armed)
  ends-behind devices flies s h x = record {
    after = x.after;
    asks = by br.asks;
    ends = x.ends;
    grows = (br.grows.0 ++ x.grows.0, grown story mid told br.grows x.grows);
    armed = ends-resumed trace br.after mid told a b c x.after x.grows x.along.armed halt br.armed (status_of s) h;
  }
    where
      by : AsksMore text trace br.after ⊎ ((halt ≡ Memory) × (br.after ≡ trace)) → AsksMore text trace x.after ⊎ ((s ≡ stop.Memory) × (x.after ≡ trace))
      by (inl more) = inl (asks-still text trace br.after x.after x.lines more)
      by (inr m) = let y = x.short m.0 in inr (y.0, y.1 ∙ m.1)

pub halted-else : (a : Halt) → (a ≡ Memory → ⊥) → (h : Halt) → h ≡ a → h ≡ Memory → ⊥
halted-else a other h is m = other (sym is ∙ m)

-- by what a line's call counts, where it is done, and where it is broken off
pub ok-counted : {A P Q : Type 0} (line : Line) (a b : View) (story told : List Event) (r : Result A Halt) → (P → CountsMore line a b None None story told → Q) → OnOk r P →
    CountsMore line a b (disk_err r) None story told → OnOk r Q
ok-counted line a b story told (Ok x) f p c = f p c
ok-counted line a b story told (Err e) f p c = tt

pub err-counted : {A : Type 0} (line : Line) (a b : View) (story told : List Event) (r : Result A Halt) (P Q : Halt → Type 0) →
    ((h : Halt) → P h → CountsMore line a b (Some (disk_err_of h)) None story told → Q h) → IfErr r P → CountsMore line a b (disk_err r) None story told → IfErr r Q
err-counted line a b story told (Ok x) P Q f p c = tt
err-counted line a b story told (Err e) P Q f p c = f e p c

-- and by what follows a halt
pub ok-resumed : {P M Q : Type 0} (h : Halt) (a b : View) (story told : List Event) (r : Result (Unit {0}) Stop) → (P → (M → ⊥) → CountsResumed h a b Done story told → Q) → OnOk r P → (M → OnOk r ⊥) →
    CountsResumed h a b (outcome r) story told → OnOk r Q
ok-resumed h a b story told (Ok x) f p m c = f p m c
ok-resumed h a b story told (Err e) f p m c = tt

pub err-resumed : (h : Halt) (a b : View) (story told : List Event) (r : Result (Unit {0}) Stop) (P Q : Stop → Type 0) → ((s : Stop) → P s → IsLaterStop s → CountsResumed h a b (status_of s) story told → Q s) →
    IfErr r P → IfErr r IsLaterStop → CountsResumed h a b (outcome r) story told → IfErr r Q
err-resumed h a b story told (Ok x) P Q f p later c = tt
err-resumed h a b story told (Err e) P Q f p later c = f e p later c
