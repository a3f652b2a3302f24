-- Faults and stops, counted from event to event.
use Rattle.salt_ast.specs.declared.lines.Line.{Line}
use Rattle.salt_disk.specs.Disks.{Rose, View, stops_in}
use Rattle.salt_disk.specs.declared.disks.DiskErr.TheVariants as disk
use Rattle.salt_disk.specs.declared.disks.DiskErr.{DiskErr}
use Rattle.salt_model.specs.declared.events.Event.TheVariants.{Down}
use Rattle.salt_model.specs.declared.events.Event.{Event}
use Rattle.salt_model.specs.declared.events.Why.TheVariants as why
use Rattle.salt_loop.specs.Counted.{AreFaults, AreFaultsOf, AreMet, CountsAdded, CountsNothing, CountsResumed, CountsRun}
use Rattle.salt_io.specs.declared.lines.LineErr.{LineErr}
use Rattle.salt_promise.specs.declared.status.Status.{Status}
use Rattle.salt_promise.specs.declared.status.Status.TheVariants.{Broken, DeviceFull, DiskFault, Done, Memory, NotSalt, NumbersSpent, OtherShape, ReadFault, ScriptTooLong, TranscriptTooLong, Unread, Usage, WriteFault}
use Rattle.salt_loop.specs.Stopping.{answer_of, outcome, status_of, stop_of}
use Rattle.salt_loop.specs.declared.stop.Stop.{Stop}
use Rattle.salt_driver.proofs.Counted.{counts-none}
use Rattle.salt_driver.specs.Counting.{CountsFall, CountsMore, CountsOpening, FallsFirst, faulted_in, faults_told}
use Rattle.salt_storage.specs.Answers.{disk_err_of}
use Rattle.salt_storage.specs.declared.halt.Halt.TheVariants as halt
use Rattle.salt_storage.specs.declared.halt.Halt.{Halt}
use Rattle.std.proofs.Common.{ap, append-nil, append_assoc, arith, inl, inr, subst, sym, ◌∙◌}
use Rattle.std.specs.Prelude.{Err, List, None, Ok, Option, Result, Some, [], refl, ℕ, ◌++◌, ◌∷◌, ◌≡◌, ◌≤◌, ◌⊎◌}
use Rattle.std.specs.Result.{IsErrAnd}

-- FAULTS

met-later : (e : Event) (a b n : ℕ) → a ≤ b → AreMet e b n → AreMet e a n
met-later (Down why.Fault) a b n h m = (omega (arith, h, m.0), rise m.1)
  where
    rise : Rose b n → Rose a n
    rise r = let x = r in omega arith
met-later (Down why.Stopped) a b n h m = omega (arith, h, m)
met-later e a b n h m = omega (arith, h, m)

faults-later : (a b c : ℕ) (es : List Event) → a ≤ b → AreFaults b es c → AreFaults a es c
faults-later a b c [] h f = omega (arith, h, f)
faults-later a b c (e ∷ es) h f = (f.0, met-later e a b f.0 h f.1, f.2)

faults-both : (a b c : ℕ) (es fs : List Event) → AreFaults a es b → AreFaults b fs c → AreFaults a (es ++ fs) c
faults-both a b c [] fs f g = faults-later a b c fs f g
faults-both a b c (e ∷ es) fs f g = (f.0, f.1, faults-both f.0 b c es fs f.2 g)

faults-last : (a b c : ℕ) (es : List Event) → AreFaults a es b → b ≤ c → AreFaults a es c
faults-last a b c [] f h = omega (arith, f, h)
faults-last a b c (e ∷ es) f h = (f.0, f.1, faults-last f.0 b c es f.2 h)

met-plain : (e : Event) (a : ℕ) → faults_told e ≡ 0 → AreMet e a a
met-plain (Down why.Fault) a h = absurd (omega (arith, h))
met-plain (Down why.Stopped) a h = omega arith
met-plain e a h = omega arith

faults-plain : (a b : ℕ) (es : List Event) → faulted_in es ≡ 0 → a ≤ b → AreFaults a es b
faults-plain a b [] h l = l
faults-plain a b (e ∷ es) h l = (a, met-plain e a (omega (arith, h)), faults-plain a b es (omega (arith, h)) l)

-- at the end of a run
faults-of : (status : Status) (a b : ℕ) (es : List Event) → (status ≡ DiskFault → ⊥) → AreFaults a es b → AreFaultsOf status a es b
faults-of DiskFault a b es other f = absurd (other refl)
faults-of status a b es other f = f

faults-end : (status : Status) (a b c : ℕ) (es : List Event) → AreFaults a es b → b ≤ c → (answer_of status ≡ Some disk.Failed → Rose b c) → AreFaultsOf status a es c
faults-end DiskFault a b c es f h rise = (b, f, h, rise refl)
faults-end status a b c es f h rise = faults-last a b c es f h

faults-weak : (status : Status) (a b : ℕ) (es : List Event) → AreFaultsOf status a es b → AreFaults a es b
faults-weak DiskFault a b es f = faults-last a f.0 b es f.1 f.2
faults-weak status a b es f = f

faults-behind : (status : Status) (a b c : ℕ) (es fs : List Event) → AreFaults a es b → AreFaultsOf status b fs c → AreFaultsOf status a (es ++ fs) c
faults-behind DiskFault a b c es fs f g = (g.0, faults-both a b g.0 es fs f g.1, g.2, g.3)
faults-behind status a b c es fs f g = faults-both a b c es fs f g

-- ONE BEHIND THE OTHER

not-disk : Done ≡ DiskFault → ⊥
not-disk e = cc

not-short : Done ≡ Memory → ⊥
not-short e = cc

pub run-behind : (a b c : View) (status : Status) (es fs : List Event) → CountsRun a b Done es → CountsRun b c status fs → CountsRun a c status (es ++ fs)
run-behind a b c status es fs g h = record {
  faults = faults-behind status a.faults b.faults c.faults es fs g.faults h.faults;
}

pub run-added : (a b c : View) (status : Status) (told now : List Event) → CountsRun a b Done told → CountsAdded b c status told now → CountsRun a c status now
run-added a b c status told now g h = subst (CountsRun a c status) (sym h.grows) (run-behind a b c status told h.more g h.counts)

pub added-none : (v : View) (story : List Event) → CountsAdded v v Done story story
added-none v story = record {
  more = [];
  grows = sym (append-nil story);
  counts = record { faults = omega arith };
}

pub run-none : (v : View) (status : Status) → (status ≡ DiskFault → ⊥) → (story : List Event) → CountsAdded v v status story story
run-none v status other story = record {
  more = [];
  grows = sym (append-nil story);
  counts = record { faults = faults-of status v.faults v.faults [] other (omega arith) };
}

-- the sink failed behind it
pub run-unwritten : (a b : View) (status : Status) (es : List Event) → (status ≡ Memory → ⊥) → CountsRun a b status es → CountsRun a b WriteFault es
run-unwritten a b status es some h = record {
  faults = faults-weak status a.faults b.faults es h.faults;
}

pub added-unwritten : (a b : View) (status : Status) (story told : List Event) → (status ≡ Memory → ⊥) → CountsAdded a b status story told → CountsAdded a b WriteFault story told
added-unwritten a b status story told some h = record { more = h.more; grows = h.grows; counts = run-unwritten a b status h.more some h.counts }

-- OPENINGS

pub memory-short : (status : Status) → answer_of status ≡ Some disk.Memory → status ≡ Memory
memory-short Memory h = refl
memory-short Done h = absurd cc
memory-short Usage h = absurd cc
memory-short Broken h = absurd cc
memory-short Unread h = absurd cc
memory-short TranscriptTooLong h = absurd cc
memory-short ReadFault h = absurd cc
memory-short WriteFault h = absurd cc
memory-short DiskFault h = absurd cc
memory-short (NotSalt dev) h = absurd cc
memory-short (DeviceFull dev) h = absurd cc
memory-short (OtherShape kept asked) h = absurd cc
memory-short ScriptTooLong h = absurd cc
memory-short (NumbersSpent boot decisions) h = absurd cc

-- no status is that of a stop
pub no-stop : (status : Status) → stops_in (answer_of status) ≡ 0
no-stop Memory = refl
no-stop Done = refl
no-stop Usage = refl
no-stop Broken = refl
no-stop Unread = refl
no-stop TranscriptTooLong = refl
no-stop ReadFault = refl
no-stop WriteFault = refl
no-stop DiskFault = refl
no-stop (NotSalt dev) = refl
no-stop (DeviceFull dev) = refl
no-stop (OtherShape kept asked) = refl
no-stop ScriptTooLong = refl
no-stop (NumbersSpent boot decisions) = refl

pub added-opened : (a b : View) (status : Status) (story told : List Event) → CountsOpening a b (answer_of status) story told → CountsAdded a b status story told
added-opened a b status story told h = record {
  more = h.more;
  grows = h.grows;
  counts = record {
    faults = faults-end status a.faults a.faults b.faults h.more (faults-plain a.faults a.faults h.more h.unfaulted (omega arith)) h.counts.faults.later h.counts.faults.failed;
  };
}

-- of a story that was empty
pub run-opened : (a b : View) (status : Status) (told : List Event) → CountsOpening a b (answer_of status) [] told → CountsRun a b status told
run-opened a b status told h = let all = added-opened a b status [] told h in subst (CountsRun a b status) (sym all.grows) all.counts

-- one behind the other
pub added-both : (a b c : View) (status : Status) (story mid now : List Event) → CountsAdded a b Done story mid → CountsAdded b c status mid now → CountsAdded a c status story now
added-both a b c status story mid now g h = record {
  more = g.more ++ h.more;
  grows = h.grows ∙ ap (λ es. es ++ h.more) g.grows ∙ append_assoc story g.more h.more;
  counts = run-behind a b c status g.more h.more g.counts h.counts;
}

-- LINES

pub line-counted : (line : Line) (a b : View) (story told : List Event) → CountsMore line a b None None story told → CountsAdded a b Done story told
line-counted line a b story told h = record {
  more = h.more;
  grows = h.grows;
  counts = record { faults = faults-plain a.faults b.faults h.more h.unfaulted h.faults.later };
}

module _ (line : Line) (a b c : View) (status : Status) (story mid told : List Event) where
  joined : (more rest : List Event) → mid ≡ story ++ more → told ≡ mid ++ rest → told ≡ story ++ (more ++ rest)
  joined more rest one two = two ∙ ap (λ es. es ++ rest) one ∙ append_assoc story more rest

  stop-counted : CountsMore line a b (Some disk.Stopped) None story mid → CountsFall why.Stopped b c (answer_of status) mid told → CountsAdded a c status story told
  stop-counted g h =
      record {
        more = g.more ++ h.more;
        grows = joined g.more h.more g.grows h.grows;
        counts = record {
          faults = faults-end status a.faults b.faults c.faults (g.more ++ h.more)
              (faults-both a.faults b.faults b.faults g.more h.more (faults-plain a.faults b.faults g.more g.unfaulted g.faults.later) (plain h.falls)) h.faults.later h.faults.failed;
        };
      }
    where
      plain : ((h.more ≡ []) × (answer_of status ≡ Some disk.Memory)) ⊎ FallsFirst why.Stopped h.more → AreFaults b.faults h.more b.faults
      plain (inl none) = subst (λ es. AreFaults b.faults es b.faults) (sym none.0) (omega arith)
      plain (inr f) = subst (λ es. AreFaults b.faults es b.faults) (sym f.first) (b.faults, omega arith, faults-plain b.faults b.faults f.behind f.unfaulted (omega arith))

  fault-counted : CountsMore line a b (Some disk.Failed) None story mid → CountsFall why.Fault b c (answer_of status) mid told → CountsAdded a c status story told
  fault-counted g h =
      record {
        more = g.more ++ h.more;
        grows = joined g.more h.more g.grows h.grows;
        counts = record {
          faults = faults-end status a.faults b.faults c.faults (g.more ++ h.more)
              (faults-both a.faults a.faults b.faults g.more h.more (faults-plain a.faults a.faults g.more g.unfaulted (omega arith)) (met h.falls)) h.faults.later h.faults.failed;
        };
      }
    where
      met : ((h.more ≡ []) × (answer_of status ≡ Some disk.Memory)) ⊎ FallsFirst why.Fault h.more → AreFaults a.faults h.more b.faults
      met (inl none) = subst (λ es. AreFaults a.faults es b.faults) (sym none.0) g.faults.later
      met (inr f) =
          subst (λ es. AreFaults a.faults es b.faults) (sym f.first)
          (b.faults, (g.faults.later, g.faults.failed refl), faults-plain b.faults b.faults f.behind f.unfaulted (omega arith))

  none-counted : (answer : Option DiskErr) → stops_in answer ≡ 0 → (status ≡ DiskFault → ⊥) → (answer ≡ Some disk.Memory → status ≡ Memory) → CountsMore line a b answer None story mid →
      CountsNothing b c mid told → CountsAdded a c status story told
  none-counted answer none other short g h = record {
    more = g.more;
    grows = h.untold ∙ g.grows;
    counts = record {
      faults = faults-of status a.faults c.faults g.more other (faults-plain a.faults c.faults g.more g.unfaulted (let x = g.faults.later in let y = h.counts.faults.later in omega arith));
    };
  }

  pub halt-counted : (h : Halt) → CountsMore line a b (Some (disk_err_of h)) None story mid → CountsResumed h b c status mid told → CountsAdded a c status story told
  halt-counted halt.Stopped g r = stop-counted g r
  halt-counted halt.DiskFault g r = fault-counted g r
  halt-counted (halt.DeviceFull dev) g r = none-counted (Some (disk.Full dev)) refl (other r.0) (λ m. cc) g r.1
    where
      other : status ≡ DeviceFull dev → status ≡ DiskFault → ⊥
      other is e = cc
  halt-counted halt.Memory g r = none-counted (Some disk.Memory) refl (other r.0) (λ m. r.0) g r.1
    where
      other : status ≡ Memory → status ≡ DiskFault → ⊥
      other is e = cc

pub nothing-counted : (v : View) (story : List Event) → CountsNothing v v story story
nothing-counted v story = record { untold = refl; counts = counts-none v }

-- the source failed: nothing is told
pub reading-counted : {A : Type 0} (v : View) (story : List Event) (r : Result A Stop) (e : LineErr) → IsErrAnd r (λ x. x ≡ stop_of e) → CountsAdded v v (outcome r) story story
reading-counted v story (Ok x) e h = absurd h
reading-counted v story (Err s) e h = subst (λ x. CountsAdded v v (status_of x) story story) (sym h) (by e)
  where
    by : (e : LineErr) → CountsAdded v v (status_of (stop_of e)) story story
    by LineErr.ReadFault = run-none v ReadFault (λ m. cc) story
    by LineErr.ScriptTooLong = run-none v ScriptTooLong (λ m. cc) story
    by LineErr.Memory = run-none v Memory (λ m. cc) story

-- for want of memory a line was not asked
pub none-asked : (line : Line) (v : View) (story : List Event) → CountsMore line v v (Some disk.Memory) None story story
none-asked line v story = record {
  more = [];
  grows = sym (append-nil story);
  unfaulted = refl;
  unstopped = refl;
  faults = record { later = omega arith; failed = λ never. cc };
  stops = λ some. absurd (some refl);
}
