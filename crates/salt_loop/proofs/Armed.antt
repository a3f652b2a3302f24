-- Stops that are armed and come, along the lines of a trace.
use Rattle.salt_ast.specs.declared.lines.Line.TheVariants.{Net, Nothing}
use Rattle.salt_ast.specs.declared.lines.Line.{Line}
use Rattle.salt_disk.proofs.Coming.{come_as, come_counted, come_on, none_came}
use Rattle.salt_disk.specs.Disks.{HaveCome, View, stops_in}
use Rattle.salt_disk.specs.declared.disks.DiskErr.TheVariants as disk
use Rattle.salt_disk.specs.declared.disks.DiskErr.{DiskErr}
use Rattle.salt_driver.proofs.Counted.{come-same}
use Rattle.salt_driver.specs.Along.{ArmsAlong, armed_along}
use Rattle.salt_driver.specs.Counting.{CountsFall, CountsMore, CountsOpening, FallsFirst, armed_in, stopped_in, stops_of}
use Rattle.salt_driver.specs.Opening.{halt_of}
use Rattle.salt_driver.specs.Serving.{GainsEvents}
use Rattle.salt_loop.proofs.Counts.{memory-short, no-stop}
use Rattle.salt_loop.specs.Armed.{EndsArmed, HaltsArmed, StaysArmed}
use Rattle.salt_loop.specs.Counted.{CountsNothing, CountsResumed}
use Rattle.salt_loop.specs.Stopping.{answer_of}
use Rattle.salt_model.specs.Arming.{armed_by_lines, behind_first, stops_asked}
use Rattle.salt_model.specs.Trace.{Trace, line_of}
use Rattle.salt_model.specs.declared.events.Event.TheVariants.{Armed, Down}
use Rattle.salt_model.specs.declared.events.Event.{Event}
use Rattle.salt_model.specs.declared.events.Why.TheVariants as why
use Rattle.salt_model.specs.declared.events.Why.{Why}
use Rattle.salt_promise.specs.Counting.{AreArmed, Stops}
use Rattle.salt_promise.specs.declared.status.Status.TheVariants.{Done, Memory, WriteFault}
use Rattle.salt_promise.specs.declared.status.Status.{Status}
use Rattle.salt_storage.specs.Answers.{disk_err_of}
use Rattle.salt_storage.specs.declared.halt.Halt.TheVariants as halt
use Rattle.salt_storage.specs.declared.halt.Halt.{Halt}
use Rattle.std.proofs.Common.{ap, append-nil, append_assoc, arith, inl, inr, subst, sym, ◌∙◌}
use Rattle.std.proofs.lemmas.List.{length-take-le, take-append-drop}
use Rattle.std.specs.Prelude.{List, None, Option, Some, [], drop, length, refl, take, ℕ, ◌+◌, ◌++◌, ◌∷◌, ◌≡◌, ◌≤◌, ◌⊎◌}

-- what stands behind a story is one list
pub same-more : {A : Type 0} (story more rest : List A) → story ++ more ≡ story ++ rest → more ≡ rest
same-more [] more rest h = h
same-more (e ∷ es) more rest h = same-more es more rest cc

-- within a line none comes: what it arms stands behind what was armed
pub line-behind : (line : Line) (es : List Event) (first : List (ℕ × ℕ)) → stopped_in es ≡ 0 → armed_along line es (Some first) ≡ Some (first ++ armed_in line es)
line-behind line [] first h = ap (λ l. Some l) (sym (append-nil first))
line-behind line (Down why.Stopped ∷ es) first h = absurd (omega (arith, h))
line-behind line (Armed pairs ∷ es) first h =
    line-behind line es (first ++ stops_asked line pairs) (omega (arith, h)) ∙ ap (λ l. Some l) (append_assoc first (stops_asked line pairs) (armed_in line es))
line-behind line (e ∷ es) first h = line-behind line es first (omega (arith, h))

-- where one has come first, it was there
one-behind : (line : Line) (es : List Event) (first last : List (ℕ × ℕ)) → HaveCome (1 + stopped_in es) first last →
    ((mid : List (ℕ × ℕ)) → HaveCome (stopped_in es) mid last → armed_along line es (Some mid) ≡ Some last) → armed_along line es (behind_first first) ≡ Some last
one-behind line es first last h again = by h.come h.many h.is
  where
    by : (come : List (ℕ × ℕ)) → length come ≡ 1 + stopped_in es → first ≡ come ++ last → armed_along line es (behind_first first) ≡ Some last
    by [] many is = absurd (omega (arith, many))
    by (stop ∷ come) many is =
        ap (λ (l : List (ℕ × ℕ)). armed_along line es (behind_first l)) is ∙ again (come ++ last) (record { come = come; many = omega (arith, many); is = refl })

asks-none : (line : Line) → stops_asked line [] ≡ []
asks-none (Net pairs) = refl
asks-none line = refl

append-none : (xs ys : List (ℕ × ℕ)) → xs ++ ys ≡ [] → (xs ≡ []) × (ys ≡ [])
append-none [] ys e = (refl, e)
append-none (x ∷ xs) ys e = absurd (too-long (ap length e))
  where
    too-long : length (x ∷ (xs ++ ys)) ≡ 0 → ⊥
    too-long z = omega (arith, z)

-- of openings and falls none arms, whatever the line: the first have come
pub opened-behind : (line : Line) (es : List Event) (first last : List (ℕ × ℕ)) → armed_in Nothing es ≡ [] → HaveCome (stopped_in es) first last → armed_along line es (Some first) ≡ Some last
opened-behind line [] first last unarmed h = ap (λ l. Some l) (sym (none_came first last h))
opened-behind line (Down why.Stopped ∷ es) first last unarmed h = one-behind line es first last h (λ mid. opened-behind line es mid last unarmed)
opened-behind line (Armed pairs ∷ es) first last unarmed h =
    let none = append-none pairs (armed_in Nothing es) unarmed in
    ap (λ (l : List (ℕ × ℕ)). armed_along line es (Some (first ++ stops_asked line l))) none.0 ∙ ap (λ (l : List (ℕ × ℕ)). armed_along line es (Some (first ++ l))) (asks-none line)
    ∙ ap (λ (l : List (ℕ × ℕ)). armed_along line es (Some l)) (append-nil first)
    ∙ opened-behind line es first last none.1 (come_as (0 + stopped_in es) (stopped_in es) first last (omega arith) h)
opened-behind line (e ∷ es) first last unarmed h = opened-behind line es first last unarmed (come_as (0 + stopped_in es) (stopped_in es) first last (omega arith) h)

-- also where those that come are not all told there are as many
opened-left : (line : Line) (es : List Event) (first : List (ℕ × ℕ)) → armed_in Nothing es ≡ [] → stopped_in es ≤ length first →
    armed_along line es (Some first) ≡ Some (drop (stopped_in es) first)
opened-left line es first unarmed most = opened-behind line es first (drop (stopped_in es) first) unarmed (record {
  come = take (stopped_in es) first;
  many = length-take-le (stopped_in es) first most;
  is = sym (take-append-drop (stopped_in es) first);
})

-- A LINE

module _ (line : Line) (a b : View) (story told : List Event) (trace after : Trace) (grows : GainsEvents story told) (arms : ArmsAlong line trace after grows.0) where
  line-armed : (answer : Option DiskErr) → (h : CountsMore line a b answer None story told) → (first : List (ℕ × ℕ)) → armed_by_lines first trace ≡ Some a.armed →
      armed_by_lines first after ≡ Some (a.armed ++ armed_in line h.more)
  line-armed answer h first is =
      arms first ∙ ap (armed_along line grows.0) is ∙ ap (λ es. armed_along line es (Some a.armed)) (same-more story grows.0 h.more (sym grows.1 ∙ h.grows))
      ∙ line-behind line h.more a.armed h.unstopped

  line-come : (answer : Option DiskErr) → (h : CountsMore line a b answer None story told) → (answer ≡ Some disk.Memory → ⊥) → HaveCome (stops_in answer) (a.armed ++ armed_in line h.more) b.armed
  line-come answer h some = h.stops some a.armed (sym (append-nil a.armed))

  pub line-stays : CountsMore line a b None None story told → StaysArmed trace after a.armed b.armed
  line-stays h = λ first is. line-armed None h first is ∙ ap (λ l. Some l) (sym (none_came (a.armed ++ armed_in line h.more) b.armed (line-come None h (λ m. cc))))

  pub line-halts : (answer : DiskErr) → CountsMore line a b (Some answer) None story told → HaltsArmed answer trace after a.armed b.armed
  line-halts answer h = λ first is. (a.armed ++ armed_in line h.more, line-armed (Some answer) h first is, λ some. line-come (Some answer) h (λ m. some (same answer m)))
    where
      same : (e : DiskErr) → Some e ≡ Some disk.Memory → e ≡ disk.Memory
      same e m = cc

same-some : {x y : List (ℕ × ℕ)} → Some x ≡ Some y → x ≡ y
same-some e = cc

-- A FALL

armed-as : (status : Status) (told last : List (ℕ × ℕ)) → ((status ≡ Memory → ⊥) → last ≡ told) → AreArmed status told last
armed-as Memory told last h = tt
armed-as status told last h = h (λ m. cc)

pub stops-are : (status : Status) (stops last : List (ℕ × ℕ)) {told : Option (List (ℕ × ℕ))} → told ≡ Some stops → ((status ≡ Memory → ⊥) → last ≡ stops) → Stops status told last
stops-are status stops last is are = record { stops = stops; behind = is; are = armed-as status stops last are }

-- the sink failed where a run ended with this status
armed-some : (status : Status) (told last : List (ℕ × ℕ)) → (status ≡ Memory → ⊥) → AreArmed status told last → last ≡ told
armed-some Memory told last some h = absurd (some refl)
armed-some status told last some h = h

pub ends-unwritten : (status : Status) {told : Option (List (ℕ × ℕ))} {last : List (ℕ × ℕ)} → (status ≡ Memory → ⊥) → Stops status told last → Stops WriteFault told last
ends-unwritten status {told} {last} some h = record { stops = h.stops; behind = h.behind; are = armed-some status h.stops last some h.are }

-- the stop that the run fell by is the first of these
module _ (why : Why) (b c : View) (answer : Option DiskErr) (mid told : List Event) (stops : List (ℕ × ℕ)) (h : CountsFall why b c answer mid told) where
  fall-come : stops_in answer ≡ 0 → HaveCome (stops_of why) stops b.armed → (answer ≡ Some disk.Memory → ⊥) → HaveCome (stopped_in h.more) stops c.armed
  fall-come none came some = by h.falls
    where
      by : ((h.more ≡ []) × (answer ≡ Some disk.Memory)) ⊎ FallsFirst why h.more → HaveCome (stopped_in h.more) stops c.armed
      by (inl short) = absurd (some short.1)
      by (inr f) =
          let is = ap stopped_in f.first in
          come_as (stops_of why + (stops_in answer + stopped_in f.behind)) (stopped_in h.more) stops c.armed (omega (arith, none, is))
          (come_on (stops_of why) (stops_in answer + stopped_in f.behind) stops b.armed c.armed came (h.stops some (stopped_in f.behind) is))

  fall-armed : (line : Line) (grows : GainsEvents mid told) → stops_in answer ≡ 0 → HaveCome (stops_of why) stops b.armed → (answer ≡ Some disk.Memory → ⊥) →
      armed_along line grows.0 (Some stops) ≡ Some c.armed
  fall-armed line grows none came some =
      ap (λ es. armed_along line es (Some stops)) (same-more mid grows.0 h.more (sym grows.1 ∙ h.grows)) ∙ opened-behind line h.more stops c.armed h.unarmed (fall-come none came some)

  -- also where memory runs out there are as many as come
  fall-left : (line : Line) (grows : GainsEvents mid told) → HaveCome (stops_of why) stops b.armed → armed_along line grows.0 (Some stops) ≡ Some (drop (stopped_in h.more) stops)
  fall-left line grows came =
      ap (λ es. armed_along line es (Some stops)) (same-more mid grows.0 h.more (sym grows.1 ∙ h.grows))
      ∙ opened-left line h.more stops h.unarmed (let all = come_counted (stops_of why) stops b.armed came in let most = h.most in omega arith)

-- AN OPENING

module _ (a b : View) (status : Status) (story told : List Event) (h : CountsOpening a b (answer_of status) story told) where
  open-come : (status ≡ Memory → ⊥) → HaveCome (stopped_in h.more) a.armed b.armed
  open-come some =
      come-same (stops_in (answer_of status) + stopped_in h.more) (stopped_in h.more) (a.armed ++ []) a.armed b.armed (let none = no-stop status in omega arith) (append-nil a.armed)
      (h.counts.stops (λ m. some (memory-short status m)))

  pub opened-stops : (line : Line) → Stops status (armed_along line h.more (Some a.armed)) b.armed
  opened-stops line =
      let left = opened-left line h.more a.armed h.unarmed h.most in
      stops-are status (drop (stopped_in h.more) a.armed) b.armed left (λ some. same-some (sym (opened-behind line h.more a.armed b.armed h.unarmed (open-come some)) ∙ left))

  pub opening-ends : (trace after : Trace) (grows : GainsEvents story told) → ArmsAlong (line_of trace) trace after grows.0 → EndsArmed status trace after a.armed b.armed
  opening-ends trace after grows along = λ first is.
      subst (λ (left : Option (List (ℕ × ℕ))). Stops status left b.armed)
      (sym (along first ∙ ap (armed_along (line_of trace) grows.0) is ∙ ap (λ es. armed_along (line_of trace) es (Some a.armed)) (same-more story grows.0 h.more (sym grows.1 ∙ h.grows))))
      (opened-stops (line_of trace))

-- where a run is done, they stay
done-stays : (trace after : Trace) (old new : List (ℕ × ℕ)) → EndsArmed Done trace after old new → StaysArmed trace after old new
done-stays trace after old new ends = λ first is. let x = ends first is in x.behind ∙ ap (λ l. Some l) (sym x.are)

pub opening-stays : (a b : View) (story told : List Event) → CountsOpening a b None story told → (trace after : Trace) (grows : GainsEvents story told) → ArmsAlong (line_of trace) trace after grows.0 →
    StaysArmed trace after a.armed b.armed
opening-stays a b story told h trace after grows along = done-stays trace after a.armed b.armed (opening-ends a b Done story told h trace after grows along)

-- BEHIND A HALT

-- what the fall of a halt is told as has come
come-halted : (why : Why) → stops_in (Some (disk_err_of (halt_of why))) ≡ stops_of why
come-halted why.Stopped = refl
come-halted why.Fault = refl

not-short : (why : Why) → disk_err_of (halt_of why) ≡ disk.Memory → ⊥
not-short why.Stopped m = cc
not-short why.Fault m = cc

module _ (trace broken : Trace) (mid told : List Event) (a b c : View) (after : Trace) (grows : GainsEvents mid told) (along : ArmsAlong (line_of broken) broken after grows.0) where
  -- it falls, and goes on, or ends in the opening behind that
  ends-fallen : (why : Why) → HaltsArmed (disk_err_of (halt_of why)) trace broken a.armed b.armed → (status : Status) → CountsFall why b c (answer_of status) mid told →
      EndsArmed status trace after a.armed c.armed
  ends-fallen why armed status h = λ first is.
      let x = armed first is in
      let come = come_as (stops_in (Some (disk_err_of (halt_of why)))) (stops_of why) x.0 b.armed (come-halted why) (x.2 (not-short why)) in
      let left = fall-left why b c (answer_of status) mid told x.0 h (line_of broken) grows come in
      stops-are status (drop (stopped_in h.more) x.0) c.armed (along first ∙ ap (armed_along (line_of broken) grows.0) x.1 ∙ left)
      (λ some. same-some (sym (fall-armed why b c (answer_of status) mid told x.0 h (line_of broken) grows (no-stop status) come (λ m. some (memory-short status m))) ∙ left))

  -- nothing is told behind a halt by which a run ends
  ends-halted : (answer : DiskErr) → stops_in (Some answer) ≡ 0 → HaltsArmed answer trace broken a.armed b.armed → (status : Status) → (answer ≡ disk.Memory → status ≡ Memory) → CountsNothing b c mid told →
      EndsArmed status trace after a.armed c.armed
  ends-halted answer none armed status short h = λ first is.
      let x = armed first is in
      stops-are status x.0 c.armed
      (along first ∙ ap (armed_along (line_of broken) grows.0) x.1 ∙ ap (λ es. armed_along (line_of broken) es (Some x.0)) (same-more mid grows.0 [] (sym grows.1 ∙ h.untold ∙ sym (append-nil mid))))
      (λ some. none_came b.armed c.armed (come-same (0 + 0) 0 (b.armed ++ []) b.armed c.armed (omega arith) (append-nil b.armed) (h.counts.stops (λ m. cc)))
      ∙ none_came x.0 b.armed (come_as (stops_in (Some answer)) 0 x.0 b.armed none (x.2 (λ m. some (short m)))))

  pub ends-resumed : (halted : Halt) → HaltsArmed (disk_err_of halted) trace broken a.armed b.armed → (status : Status) → CountsResumed halted b c status mid told → EndsArmed status trace after a.armed c.armed
  ends-resumed halt.Stopped armed status h = ends-fallen why.Stopped armed status h
  ends-resumed halt.DiskFault armed status h = ends-fallen why.Fault armed status h
  ends-resumed (halt.DeviceFull dev) armed status h = ends-halted (disk.Full dev) refl armed status (λ m. cc) h.1
  ends-resumed halt.Memory armed status h = ends-halted disk.Memory refl armed status (λ m. h.0) h.1

  pub stays-resumed : (halted : Halt) → HaltsArmed (disk_err_of halted) trace broken a.armed b.armed → CountsResumed halted b c Done mid told → StaysArmed trace after a.armed c.armed
  stays-resumed halted armed h = done-stays trace after a.armed c.armed (ends-resumed halted armed Done h)
