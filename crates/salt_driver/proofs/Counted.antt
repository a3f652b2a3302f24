-- Stops counted along the events of a story.
use Rattle.salt_ast.specs.declared.lines.Line.TheVariants.{Nothing}
use Rattle.salt_ast.specs.declared.lines.Line.{Line}
use Rattle.salt_disk.proofs.Coming.{come_as, come_counted, come_on, none_came, none_come}
use Rattle.salt_disk.specs.Disks.{HasCause, HaveCome, Rose, View, stops_in, stops_left}
use Rattle.salt_disk.specs.declared.disks.DiskErr.TheVariants.{Memory, Stopped}
use Rattle.salt_disk.specs.declared.disks.DiskErr.{DiskErr}
use Rattle.law_states.proofs.PointsGoOn.{no-more}
use Rattle.law_states.specs.Laws.{is_of_run}
use Rattle.salt_model.specs.declared.events.Event.TheVariants.{Down}
use Rattle.salt_model.specs.declared.events.Event.{Event}
use Rattle.salt_model.specs.declared.events.Why.TheVariants as why
use Rattle.salt_model.specs.declared.events.Why.{Why}
use Rattle.salt_driver.proofs.Advancing.{append-both}
use Rattle.salt_driver.specs.Counting.{CountsFall, CountsFaults, CountsMore, CountsOpening, CountsSoFar, CountsStops, armed_at, armed_in, faulted_in, faults_told, stopped_in, stops_armed, stops_told}
use Rattle.salt_storage.specs.Answers.{disk_err_of, halted_by, open_disk_err_of}
use Rattle.salt_storage.specs.declared.halt.Halt.TheVariants as halting
use Rattle.salt_storage.specs.declared.halt.Halt.{Halt}
use Rattle.std.proofs.Common.{ap, append-nil, append_assoc, arith, inl, inr, subst, sym, ◌∙◌}
use Rattle.std.specs.Prelude.{List, None, Option, Some, [], false, length, refl, ℕ, ◌+◌, ◌++◌, ◌<◌, ◌∷◌, ◌≡◌, ◌≤◌, ◌⊎◌}

pub armed-both : (line : Line) (es fs : List Event) → armed_in line (es ++ fs) ≡ armed_in line es ++ armed_in line fs
armed-both line [] fs = refl
armed-both line (e ∷ es) fs = ap (λ l. stops_armed line e ++ l) (armed-both line es fs) ∙ sym (append_assoc (stops_armed line e) (armed_in line es) (armed_in line fs))

armed-last : (line : Line) (es : List Event) (e : Event) → armed_in line (es ++ e ∷ []) ≡ armed_in line es ++ stops_armed line e
armed-last line es e = armed-both line es (e ∷ []) ∙ ap (λ l. armed_in line es ++ l) (append-nil (stops_armed line e))

-- none behind none
pub unarmed-both : (line : Line) (es fs : List Event) → armed_in line es ≡ [] → armed_in line fs ≡ [] → armed_in line (es ++ fs) ≡ []
unarmed-both line es fs g h = armed-both line es fs ∙ ap (λ l. l ++ armed_in line fs) g ∙ h

pub stopped-both : (es fs : List Event) → stopped_in (es ++ fs) ≡ stopped_in es + stopped_in fs
stopped-both [] fs = omega arith
stopped-both (e ∷ es) fs = let h = stopped-both es fs in omega arith

pub faulted-both : (es fs : List Event) → faulted_in (es ++ fs) ≡ faulted_in es + faulted_in fs
faulted-both [] fs = omega arith
faulted-both (e ∷ es) fs = let h = faulted-both es fs in omega arith

unfaulted-both : (es fs : List Event) → faulted_in es ≡ 0 → faulted_in fs ≡ 0 → faulted_in (es ++ fs) ≡ 0
unfaulted-both es fs g h = let both = faulted-both es fs in omega arith

unstopped-both : (es fs : List Event) → stopped_in es ≡ 0 → stopped_in fs ≡ 0 → stopped_in (es ++ fs) ≡ 0
unstopped-both es fs g h = let both = stopped-both es fs in omega arith

pub rose-on : (a b c : ℕ) → a ≤ b → Rose b c → Rose a c
rose-on a b c h r = let same = r in omega arith

pub not-told : (e : Event) → is_of_run e ≡ false → stops_told e ≡ 0
not-told (Down why) h = cc
not-told e h = refl

pub not-faulted : (e : Event) → is_of_run e ≡ false → faults_told e ≡ 0
not-faulted (Down why) h = cc
not-faulted e h = refl

one-unfaulted : (e : Event) → faults_told e ≡ 0 → faulted_in (e ∷ []) ≡ 0
one-unfaulted e h = omega arith

one-unstopped : (e : Event) → stops_told e ≡ 0 → stopped_in (e ∷ []) ≡ 0
one-unstopped e h = omega arith

-- STOPS THAT HAVE COME

-- as many, of the same
pub come-same : (m n : ℕ) (old now new : List (ℕ × ℕ)) → m ≡ n → old ≡ now → HaveCome m old new → HaveCome n now new
come-same m n old now new many same h = come_as m n now new many (subst (λ (stops : List (ℕ × ℕ)). HaveCome m stops new) same h)

-- where none was armed besides
alone : (n : ℕ) (old new : List (ℕ × ℕ)) → HaveCome n (old ++ []) new → HaveCome n old new
alone n old new h = come-same n n (old ++ []) old new refl (append-nil old) h

-- FAULTS

same-faults : (v : View) → CountsFaults v v None
same-faults v = record { later = omega arith; failed = λ never. cc }

faults-on : (a b c : View) (answer : Option DiskErr) → CountsFaults a b None → CountsFaults b c answer → CountsFaults a c answer
faults-on a b c answer g h = record {
  later = let x = g.later in let y = h.later in omega arith;
  failed = λ is. rose-on a.faults b.faults c.faults g.later (h.failed is);
}

-- ALONG A LINE

pub count-none : (line : Line) (v : View) (first : Option Event) (story : List Event) → CountsSoFar line v v first story story first
count-none line v first story = record {
  more = [];
  grows = sym (no-more story);
  unfaulted = refl;
  unstopped = refl;
  faults = same-faults v;
  stops = λ before is. is ∙ ap (λ l. l ++ armed_at line first) (sym (append-nil before));
}

-- what the last event has armed stands behind what those before it have
told-last : (line : Line) (before : List (ℕ × ℕ)) (es : List Event) (e : Event) (armed : List (ℕ × ℕ)) → armed ≡ before ++ armed_in line es ++ stops_armed line e → armed ≡ before ++ armed_in line (es ++ e ∷ [])
told-last line before es e armed is = is ∙ append_assoc before (armed_in line es) (stops_armed line e) ∙ ap (λ l. before ++ l) (sym (armed-last line es e))

-- what a call arms stands behind what is armed
armed-behind : (mid new : View) (armed : List (ℕ × ℕ)) → CountsStops mid new None armed 0 → new.armed ≡ mid.armed ++ armed
armed-behind mid new armed h = none_came (mid.armed ++ armed) new.armed (come-same (0 + 0) 0 (mid.armed ++ armed) (mid.armed ++ armed) new.armed (omega arith) refl (h.stops (λ never. cc)))

pub count-on : (line : Line) (old mid new : View) (first : Option Event) (story told now : List Event) (e : Event) (next : Option Event) →
    CountsSoFar line old mid first story told (Some e) → CountsStops mid new None (armed_at line next) 0 → is_of_run e ≡ false →
    now ≡ told ++ e ∷ [] → CountsSoFar line old new first story now next
count-on line old mid new first story told now e next g h plain grows = record {
  more = g.more ++ e ∷ [];
  grows = grows ∙ ap (λ es. es ++ e ∷ []) g.grows ∙ append-both story g.more (e ∷ []);
  unfaulted = unfaulted-both g.more (e ∷ []) g.unfaulted (one-unfaulted e (not-faulted e plain));
  unstopped = unstopped-both g.more (e ∷ []) g.unstopped (one-unstopped e (not-told e plain));
  faults = faults-on old mid new None g.faults h.faults;
  stops = λ before is. armed-behind mid new (armed_at line next) h ∙ ap (λ l. l ++ armed_at line next) (told-last line before g.more e mid.armed (g.stops before is));
}

pub count-all : (line : Line) (old new : View) (first : Option Event) (story told : List Event) → CountsSoFar line old new first story told None → CountsMore line old new None first story told
count-all line old new first story told g = record {
  more = g.more;
  grows = g.grows;
  unfaulted = g.unfaulted;
  unstopped = g.unstopped;
  faults = g.faults;
  stops = λ some before is. come-same 0 0 new.armed (before ++ armed_in line g.more) new.armed refl (g.stops before is ∙ append-nil (before ++ armed_in line g.more)) (none_come new.armed new.armed refl);
}

-- broken off in an event: for want of memory before it was told, or behind it
pub count-stop : (line : Line) (old mid new : View) (answer : Option DiskErr) (first : Option Event) (story told now : List Event) (e : Event) →
    CountsSoFar line old mid first story told (Some e) → CountsStops mid new answer [] 0 →
    ((now ≡ told) × (answer ≡ Some Memory)) ⊎ ((now ≡ told ++ e ∷ []) × (is_of_run e ≡ false)) → CountsMore line old new answer first story now
count-stop line old mid new answer first story told now e g h (inl short) = record {
  more = g.more;
  grows = short.0 ∙ g.grows;
  unfaulted = g.unfaulted;
  unstopped = g.unstopped;
  faults = faults-on old mid new answer g.faults h.faults;
  stops = λ some. absurd (some short.1);
}
count-stop line old mid new answer first story told now e g h (inr said) = record {
  more = g.more ++ e ∷ [];
  grows = said.0 ∙ ap (λ es. es ++ e ∷ []) g.grows ∙ append-both story g.more (e ∷ []);
  unfaulted = unfaulted-both g.more (e ∷ []) g.unfaulted (one-unfaulted e (not-faulted e said.1));
  unstopped = unstopped-both g.more (e ∷ []) g.unstopped (one-unstopped e (not-told e said.1));
  faults = faults-on old mid new answer g.faults h.faults;
  stops = λ some before is. come-same (stops_in answer + 0) (stops_in answer) (mid.armed ++ []) (before ++ armed_in line (g.more ++ e ∷ [])) new.armed (omega arith)
      (append-nil mid.armed ∙ told-last line before g.more e mid.armed (g.stops before is)) (h.stops some);
}

-- a turn, or a line, gives its first event
pub count-turn : (line : Line) (old mid new : View) (first : Option Event) (story told : List Event) (next : Option Event) → CountsSoFar line old mid first story told None →
    CountsStops mid new None (armed_at line next) 0 → CountsSoFar line old new first story told next
count-turn line old mid new first story told next g h = record {
  more = g.more;
  grows = g.grows;
  unfaulted = g.unfaulted;
  unstopped = g.unstopped;
  faults = faults-on old mid new None g.faults h.faults;
  stops = λ before is. armed-behind mid new (armed_at line next) h ∙ ap (λ l. l ++ armed_at line next) (g.stops before is ∙ append-nil (before ++ armed_in line g.more));
}

-- or is broken off
pub count-short : (line : Line) (old mid new : View) (answer : Option DiskErr) (first : Option Event) (story told : List Event) → CountsSoFar line old mid first story told None →
    CountsStops mid new answer [] 0 → CountsMore line old new answer first story told
count-short line old mid new answer first story told g h = record {
  more = g.more;
  grows = g.grows;
  unfaulted = g.unfaulted;
  unstopped = g.unstopped;
  faults = faults-on old mid new answer g.faults h.faults;
  stops = λ some before is. come-same (stops_in answer + 0) (stops_in answer) (mid.armed ++ []) (before ++ armed_in line g.more) new.armed (omega arith)
      (append-nil mid.armed ∙ g.stops before is ∙ append-nil (before ++ armed_in line g.more)) (h.stops some);
}

-- events told behind others
pub count-join : (line : Line) (old mid new : View) (answer : Option DiskErr) (first next : Option Event) (story told now : List Event) →
    CountsSoFar line old mid first story told next → CountsMore line mid new answer next told now → CountsMore line old new answer first story now
count-join line old mid new answer first next story told now g h = record {
  more = g.more ++ h.more;
  grows = h.grows ∙ ap (λ es. es ++ h.more) g.grows ∙ append-both story g.more h.more;
  unfaulted = unfaulted-both g.more h.more g.unfaulted h.unfaulted;
  unstopped = unstopped-both g.more h.more g.unstopped h.unstopped;
  faults = faults-on old mid new answer g.faults h.faults;
  stops = λ some before is.
      let mine = before ++ armed_in line g.more in
      come-same (stops_in answer) (stops_in answer) (mine ++ armed_in line h.more) (before ++ armed_in line (g.more ++ h.more)) new.armed refl
      (append_assoc before (armed_in line g.more) (armed_in line h.more) ∙ ap (λ l. before ++ l) (sym (armed-both line g.more h.more)))
      (h.stops some mine (g.stops before is));
}

-- what comes next behind it arms nothing, and is left out
pub count-left : (line : Line) (old new : View) (first : Option Event) (story told : List Event) (next : Option Event) → armed_at line next ≡ [] → CountsSoFar line old new first story told next →
    CountsSoFar line old new first story told None
count-left line old new first story told next none g = record {
  more = g.more;
  grows = g.grows;
  unfaulted = g.unfaulted;
  unstopped = g.unstopped;
  faults = g.faults;
  stops = λ before is. g.stops before is ∙ ap (λ l. before ++ armed_in line g.more ++ l) none;
}

pub count-so-far : (line : Line) (old new : View) (first : Option Event) (story told : List Event) → CountsMore line old new None first story told →
    CountsSoFar line old new first story told None
count-so-far line old new first story told g = record {
  more = g.more;
  grows = g.grows;
  unfaulted = g.unfaulted;
  unstopped = g.unstopped;
  faults = g.faults;
  stops = λ before is. none_came (before ++ armed_in line g.more) new.armed (g.stops (λ never. cc) before is) ∙ sym (append-nil (before ++ armed_in line g.more));
}

-- OPENINGS

-- counts one after another, where the first call has done what it was asked to
counts-on : (a b c : View) (answer : Option DiskErr) (m n all : ℕ) → m + n ≡ all → CountsStops a b None [] m → CountsStops b c answer [] n → CountsStops a c answer [] all
counts-on a b c answer m n all both g h = record {
  faults = faults-on a b c answer g.faults h.faults;
  stops = λ some. come-same (0 + m + (stops_in answer + n)) (stops_in answer + all) a.armed (a.armed ++ []) c.armed (let e = both in omega arith) (sym (append-nil a.armed))
      (come_on (0 + m) (stops_in answer + n) a.armed b.armed c.armed (alone (0 + m) a.armed b.armed (g.stops (λ never. cc))) (alone (stops_in answer + n) b.armed c.armed (h.stops some)));
}

pub counts-none : (v : View) → CountsStops v v None [] 0
counts-none v = record { faults = same-faults v; stops = λ some. come-same 0 (0 + 0) v.armed (v.armed ++ []) v.armed (omega arith) (sym (append-nil v.armed)) (none_come v.armed v.armed refl) }

pub opening-none : (v : View) (story : List Event) → CountsOpening v v None story story
opening-none v story = record {
  more = [];
  grows = sym (no-more story);
  unarmed = refl;
  unfaulted = refl;
  most = omega arith;
  counts = counts-none v;
}

-- a call that tells nothing, or what it tells behind it
pub opening-untold : (old new : View) (answer : Option DiskErr) (story told : List Event) → CountsStops old new answer [] 0 → told ≡ story → CountsOpening old new answer story told
opening-untold old new answer story told h same = record {
  more = [];
  grows = same ∙ sym (no-more story);
  unarmed = refl;
  unfaulted = refl;
  most = omega arith;
  counts = h;
}

-- where a line would halt, an opening has ended by the same answer
pub opening-halted : (old new : View) (halt : Halt) (story told : List Event) → CountsOpening old new (Some (disk_err_of halt)) story told → CountsOpening old new (open_disk_err_of (halted_by halt)) story told
opening-halted old new halting.Stopped story told h = h
opening-halted old new halting.DiskFault story told h = h
opening-halted old new (halting.DeviceFull dev) story told h = h
opening-halted old new halting.Memory story told h = h

pub opening-said : (old new : View) (answer : Option DiskErr) (story told : List Event) (e : Event) → CountsStops old new answer [] 0 → stops_armed Nothing e ≡ [] → stops_told e ≡ 0 → faults_told e ≡ 0 →
    told ≡ story ++ e ∷ [] → CountsOpening old new answer story told
opening-said old new answer story told e h unarmed untold faultless same = record {
  more = e ∷ [];
  grows = same;
  unarmed = append-nil (stops_armed Nothing e) ∙ unarmed;
  unfaulted = one-unfaulted e faultless;
  most = omega arith;
  counts = record {
    faults = h.faults;
    stops = λ some. come-same (stops_in answer + 0) (stops_in answer + stopped_in (e ∷ [])) (old.armed ++ []) (old.armed ++ []) new.armed (let none = untold in omega arith) refl (h.stops some);
  };
}

-- one behind the other
pub opening-join : (old mid new : View) (answer : Option DiskErr) (story told now : List Event) → CountsOpening old mid None story told → CountsOpening mid new answer told now →
    CountsOpening old new answer story now
opening-join old mid new answer story told now g h = record {
  more = g.more ++ h.more;
  grows = h.grows ∙ ap (λ es. es ++ h.more) g.grows ∙ append-both story g.more h.more;
  unfaulted = unfaulted-both g.more h.more g.unfaulted h.unfaulted;
  unarmed = unarmed-both Nothing g.more h.more g.unarmed h.unarmed;
  most =
      let came = come_counted (0 + stopped_in g.more) old.armed mid.armed (alone (0 + stopped_in g.more) old.armed mid.armed (g.counts.stops (λ never. cc))) in
      let both = stopped-both g.more h.more in
      let y = h.most in
      omega arith;
  counts = counts-on old mid new answer (stopped_in g.more) (stopped_in h.more) (stopped_in (g.more ++ h.more)) (sym (stopped-both g.more h.more)) g.counts h.counts;
}

-- broken off in an event
pub opening-stop : (old mid new : View) (answer : Option DiskErr) (story told now : List Event) (e : Event) → CountsOpening old mid None story told →
    CountsStops mid new answer [] 0 → stops_armed Nothing e ≡ [] → ((now ≡ told) × (answer ≡ Some Memory)) ⊎ ((now ≡ told ++ e ∷ []) × (is_of_run e ≡ false)) →
    CountsOpening old new answer story now
opening-stop old mid new answer story told now e g h unarmed (inl short) = opening-join old mid new answer story told now g (opening-untold mid new answer told now h short.0)
opening-stop old mid new answer story told now e g h unarmed (inr said) =
    opening-join old mid new answer story told now g (opening-said mid new answer told now e h unarmed (not-told e said.1) (not-faulted e said.1) said.0)

-- the stop that has broken it off stood first behind those that were told
stop-came : (old mid new : View) (story told : List Event) → (h : CountsOpening old mid (Some Stopped) story told) → new.armed ≡ mid.armed → HaveCome (1 + stopped_in h.more) old.armed new.armed
stop-came old mid new story told h stops =
    subst (HaveCome (1 + stopped_in h.more) old.armed) (sym stops) (alone (1 + stopped_in h.more) old.armed mid.armed (h.counts.stops (λ never. cc)))

-- the run has fallen by a stop, which is used up
pub opening-fallen : (old mid new : View) (story told now : List Event) → CountsOpening old mid (Some Stopped) story told → new.faults ≡ mid.faults → new.armed ≡ mid.armed →
    now ≡ told ++ Down why.Stopped ∷ [] → CountsOpening old new None story now
opening-fallen old mid new story told now h faults stops grows =
    let came = stop-came old mid new story told h stops in
    let stopped = stopped-both h.more (Down why.Stopped ∷ []) in
    record {
      more = h.more ++ Down why.Stopped ∷ [];
      grows = grows ∙ ap (λ es. es ++ Down why.Stopped ∷ []) h.grows ∙ append-both story h.more (Down why.Stopped ∷ []);
      unarmed = unarmed-both Nothing h.more (Down why.Stopped ∷ []) h.unarmed refl;
      unfaulted = unfaulted-both h.more (Down why.Stopped ∷ []) h.unfaulted refl;
      most = let x = come_counted (1 + stopped_in h.more) old.armed new.armed came in omega arith;
      counts = record {
        faults = record { later = let x = h.counts.faults.later in let same = faults in omega arith; failed = λ never. cc };
        stops = λ some. come-same (1 + stopped_in h.more) (0 + stopped_in (h.more ++ Down why.Stopped ∷ [])) old.armed (old.armed ++ []) new.armed (omega arith) (sym (append-nil old.armed)) came;
      };
    }

pub fewer-stops : (old mid new : View) (story told : List Event) → CountsOpening old mid (Some Stopped) story told → new.armed ≡ mid.armed → stops_left new < stops_left old
fewer-stops old mid new story told h stops = let x = come_counted (1 + stopped_in h.more) old.armed new.armed (stop-came old mid new story told h stops) in omega arith

pub short-counts : (old new : View) (answer : Option DiskErr) (story told now : List Event) → CountsOpening old new answer story told → now ≡ told → answer ≡ Some Stopped →
    CountsOpening old new (Some Memory) story now
short-counts old new answer story told now h same is = record {
  more = h.more;
  grows = same ∙ h.grows;
  unarmed = h.unarmed;
  unfaulted = h.unfaulted;
  most = h.most;
  counts = record { faults = record { later = h.counts.faults.later; failed = λ never. cc }; stops = λ some. absurd (some refl) };
}

-- A FALL, and what is told behind it

pub fall-counts : (why : Why) (old mid new : View) (answer : Option DiskErr) (story told now : List Event) → mid.faults ≡ old.faults → mid.armed ≡ old.armed →
    told ≡ story ++ Down why ∷ [] → CountsOpening mid new answer told now → CountsFall why old new answer story now
fall-counts why old mid new answer story told now faults stops fell h = record {
  more = Down why ∷ h.more;
  grows = h.grows ∙ ap (λ es. es ++ h.more) fell ∙ append-both story (Down why ∷ []) h.more;
  unarmed = h.unarmed;
  falls = inr (record { behind = h.more; first = refl; unfaulted = h.unfaulted });
  most = let x = h.most in let same = ap length stops in omega arith;
  faults = record {
    later = subst (λ (n : ℕ). n ≤ new.faults) faults h.counts.faults.later;
    failed = λ is. subst (λ (n : ℕ). Rose n new.faults) faults (h.counts.faults.failed is);
  };
  stops = λ some came is. come-same (stops_in answer + stopped_in h.more) (stops_in answer + came) (mid.armed ++ []) old.armed new.armed (let e = is in omega arith) (append-nil mid.armed ∙ stops)
      (h.counts.stops some);
}

-- or memory ran out before
pub fall-short : (why : Why) (v : View) (story : List Event) → CountsFall why v v (Some Memory) story story
fall-short why v story = record {
  more = [];
  grows = sym (no-more story);
  unarmed = refl;
  falls = inl (refl, refl);
  most = omega arith;
  faults = record { later = omega arith; failed = λ never. cc };
  stops = λ some. absurd (some refl);
}

-- as a call of the storage counts them
pub counts-cause : (old new : View) (answer : Option DiskErr) (armed : List (ℕ × ℕ)) → armed ≡ [] → HasCause old new answer → CountsStops old new answer armed 0
counts-cause old new answer armed none h = record {
  faults = record { later = h.later; failed = h.failed };
  stops = λ other. come-same (stops_in answer) (stops_in answer + 0) old.armed (old.armed ++ armed) new.armed (omega arith) (sym (ap (λ l. old.armed ++ l) none ∙ append-nil old.armed)) h.stops;
}

-- a first opening tells nothing
pub opening_cause : (old new : View) (answer : Option DiskErr) (story : List Event) → HasCause old new answer → CountsOpening old new answer story story
opening_cause old new answer story h = opening-untold old new answer story story (counts-cause old new answer [] refl h) refl
