-- A run that ends with a unit in flight: the disks stopped in its commit, and failed as they were opened again. What they may hold stands for
-- what was kept without the unit, or with it.
use Rattle.salt_ast.specs.Lines as form
use Rattle.salt_ast.specs.ProgramLimits.{line_limit}
use Rattle.salt_ast.specs.declared.lines.Act.TheVariants as act
use Rattle.salt_ast.specs.declared.lines.Line.TheVariants.{Session}
use Rattle.salt_bytes.specs.Coordinator.{Boots, Decides, Decision, spell_entry}
use Rattle.salt_bytes.specs.Log.{entries_in, entries_up_to, framed, split_payload}
use Rattle.salt_disk.specs.Disks.{IsImage, View}
use Rattle.salt_model.specs.Computing.{computing}
use Rattle.salt_model.specs.Everywhere.{Always}
use Rattle.salt_model.specs.Kept.{Definition, WellKept, nothing_kept}
use Rattle.salt_model.specs.Lines.{AskInOrder, Asks, is_line}
use Rattle.salt_model.specs.Played.{IsPlayed}
use Rattle.salt_model.specs.Rests.{DoesItsRests}
use Rattle.salt_model.specs.Segments.{IsComplete}
use Rattle.salt_model.specs.Tables.{with_changes}
use Rattle.salt_model.specs.Trace as trace_words
use Rattle.salt_model.specs.Trace.{Trace, Tree, start_of, story_of, ◌asks◌, ◌says◌}
use Rattle.salt_model.specs.declared.events.Event.TheVariants.{Began, Down, Opened, Ready}
use Rattle.salt_model.specs.declared.events.Flight.TheVariants as flight
use Rattle.salt_model.specs.declared.events.UnitKind.TheVariants.{Acid}
use Rattle.salt_model.specs.declared.events.Why.TheVariants.{Stopped}
use Rattle.salt_promise.proofs.Devices.{IsNew, beside-logs, kept_told, new-stands, opened-new, opened_told}
use Rattle.salt_promise.proofs.OneLine.{opens, served, served-complete, start}
use Rattle.salt_promise.specs.Doing.{AreLinesOf, IsWritten, story_before_line, text_under}
use Rattle.salt_promise.specs.Ending.{Flies, IsLeftBehind, StandsBehind}
use Rattle.salt_promise.specs.Given.{Run, World}
use Rattle.salt_promise.specs.Promises.{Promises}
use Rattle.salt_promise.specs.Runs.{Runs, runs_as}
use Rattle.salt_promise.specs.Standing.{IsReader}
use Rattle.salt_promise.specs.Ways.{FirstLines, Told, Whole}
use Rattle.salt_promise.specs.Worked.{ample, begun, blank, header_at, holding, one_part, opened}
use Rattle.salt_promise.specs.declared.command.Command.TheVariants.{Script}
use Rattle.salt_promise.specs.declared.status.Status.TheVariants.{DiskFault}
use Rattle.salt_stands.specs.CoordinatorLog as coordinator_log
use Rattle.salt_ast.specs.Pieces.{Lexes, Piece, blank as space, ended, token}
use Rattle.salt_ast.specs.TokenSpelling.{keyword_of, sign_of}
use Rattle.salt_ast.specs.declared.sign.Sign.TheVariants as mark
use Rattle.salt_ast.specs.declared.token.TokenKind.TheVariants as kind
use Rattle.salt_values.specs.declared.id.Id.{Id}
use Rattle.std.proofs.Common.{None, arith, false, inl, inr, ◌∙◌}
use Rattle.std.specs.Prelude.{IfSome, List, Option, Some, [], codes, refl, suc, zero, ℕ, ⊤, ◌++◌, ◌<◌, ◌∷◌, ◌≡◌, ◌≤◌, ◌⊎◌}

-- THE SCRIPT: a session begins a unit, and commits it

abbrev begins : List ℕ
begins = codes "@1 begin"

abbrev commits : List ℕ
commits = codes "@1 commit"

abbrev script : List ℕ
script = begins ++ 10 ∷ (commits ++ 10 ∷ [])

abbrev session_and : List ℕ → List Piece
session_and word = record { kind = kind.Sign; text = codes "@" } ∷ record { kind = kind.Int; text = codes "1" } ∷ record { kind = kind.Word; text = word } ∷ []

begins-lexes : Lexes begins (session_and (codes "begin"))
unfolding sign_of
begins-lexes =
    token kind.Sign (codes "@") (mark.At, refl) refl
    (token kind.Int (codes "1") (refl, tt) refl
    (space refl (token kind.Word (codes "begin") (refl, (refl, (refl, (refl, (refl, tt))))) tt ended)))

commits-lexes : Lexes commits (session_and (codes "commit"))
unfolding sign_of
commits-lexes =
    token kind.Sign (codes "@") (mark.At, refl) refl
    (token kind.Int (codes "1") (refl, tt) refl
    (space refl (token kind.Word (codes "commit") (refl, (refl, (refl, (refl, (refl, (refl, tt)))))) tt ended)))

begins-asks : Asks begins (Tree (Session 1 act.Begin))
unfolding line_limit keyword_of sign_of
begins-asks =
    is_line
    (record { within = omega arith; does_something = refl; bytes = refl })
    (record { tree = refl; parentheses = record { tokens = session_and (codes "begin"); lexes = begins-lexes; spelled = form.of_session form.begins } })

commits-asks : Asks commits (Tree (Session 1 act.Commit))
unfolding line_limit keyword_of sign_of
commits-asks =
    is_line
    (record { within = omega arith; does_something = refl; bytes = refl })
    (record { tree = refl; parentheses = record { tokens = session_and (codes "commit"); lexes = commits-lexes; spelled = form.of_session form.commits } })

-- THE DEVICES: a decision without changes may stand in the coordinator's log, or not

abbrev unit : Id
unit = record { boot = 1; seq = 1 }

abbrev decision : Decision
decision = record { number = 1; unit = unit; mask = 0; move = 0 ∷ [] }

abbrev pub decided : ℕ → List ℕ
decided = begun (header_at 0) (spell_entry (Boots 1) ∷ spell_entry (Decides decision) ∷ [])

abbrev decided_told : coordinator_log.Told
decided_told = record { boot = 1; decisions = 1; definitions = []; decided = decision ∷ [] }

decided-new : (read : List ℕ → Option Definition) → IsNew read decided decided_told []
unfolding entries_in entries_up_to split_payload framed with_changes
decided-new read = record { coordinator = refl; part = refl }

abbrev pub torn : View
torn = record (holding ample opened []) { faults = 1; image = λ dev c. (c ≡ opened dev) ⊎ (c ≡ decided dev) }

pub without-it : IsImage torn opened
without-it dev low = inl refl

pub with-it : IsImage torn decided
with-it dev low = inr refl

-- THE RUN: one stop was armed before it

abbrev printed : List ℕ
printed = codes "opened 1 0" ++ 10 ∷ (codes "ready" ++ 10 ∷ (codes "u1.1 began @1" ++ 10 ∷ (codes "down stopped" ++ 10 ∷ [])))

abbrev before : World
before = record {
  source = record { bytes = Some script; faults = 0 };
  sink = record { bytes = Some []; faults = 0 };
  devices = holding ample blank ((12, 0) ∷ []);
}

abbrev after : World
after = record {
  source = record { bytes = Some []; faults = 0 };
  sink = record { bytes = Some printed; faults = 0 };
  devices = torn;
}

abbrev pub in_flight : Run
in_flight = record {
  command = Some (Script one_part false false);
  before = before;
  after = after;
  status = DiskFault;
  flight = Some (flight.Unit unit);
  story = Opened 1 0 ∷ Ready ∷ Began unit (Acid 1) ∷ Down Stopped ∷ [];
  net = None;
}

-- ITS TRACE

abbrev working : Trace
working = served asks Tree (Session 1 act.Begin) says Began unit (Acid 1)

abbrev trace : Trace
trace = working asks Tree (Session 1 act.Commit) says Down Stopped

working-complete : IsComplete working
unfolding computing
working-complete = (refl, refl, refl)

played : IsPlayed trace
unfolding computing
played = ((((((tt, (omega arith, omega arith, inl refl)), refl), served-complete), refl), working-complete), refl)

asked : AskInOrder (begins ∷ commits ∷ []) (trace_words.lines_asked trace)
asked = (begins-asks, (commits-asks, tt))

flies : Flies Told trace in_flight.flight
unfolding computing
flies = refl

lines : (IfSome (Some script) (λ bytes. AreLinesOf FirstLines bytes (Some []) (begins ∷ commits ∷ [])))
lines = record { got = script; front = ([], refl); within = omega arith; lines = refl; first = ([], refl) }

written : IsWritten Whole (Some []) (text_under trace (story_before_line trace)) (text_under trace (story_of trace)) (Some printed)
unfolding computing
written = refl

drains : Always DoesItsRests trace
drains = (
  (
    (
      (
        (
          (
            λ opening. absurd (cc opening),
            λ opening. omega arith,
          ),
          λ opening. absurd (cc opening),
        ),
        λ opening. absurd (cc opening),
      ),
      λ opening. absurd (cc opening),
    ),
    λ opening. absurd (cc opening),
  ),
  λ opening. absurd (cc opening),
)

-- WHAT IS LEFT

-- the second device and those behind it are the same either way
module _ (image : ℕ → List ℕ) (is : IsImage torn image) where
  behind-first : (dev : ℕ) → suc dev < 26 → image (suc dev) ≡ opened (suc dev)
  behind-first dev low = by (is (suc dev) low)
    where
      by : (image (suc dev) ≡ opened (suc dev)) ⊎ (image (suc dev) ≡ decided (suc dev)) → image (suc dev) ≡ opened (suc dev)
      by (inl h) = h
      by (inr h) = h

  as-opened : image 0 ≡ opened 0 → (dev : ℕ) → dev < 26 → image dev ≡ opened dev
  as-opened e zero low = e
  as-opened e (suc dev) low = behind-first dev low

  as-decided : image 0 ≡ decided 0 → (dev : ℕ) → dev < 26 → image dev ≡ decided dev
  as-decided e zero low = e
  as-decided e (suc dev) low = behind-first dev low

left-without : IsLeftBehind ⊤ trace (kept_told opened_told [])
unfolding computing
left-without = record { boots = 0; most = omega arith; is = inl refl }

left-with : IsLeftBehind ⊤ trace (kept_told decided_told [])
unfolding computing
left-with = record { boots = 0; most = omega arith; is = inr (tt, refl) }

module _ (read : List ℕ → Option Definition) (reads : IsReader read) where
  images : (image : ℕ → List ℕ) → IsImage torn image → StandsBehind in_flight one_part trace image
  images image is = by (is 0 (omega arith))
    where
      by : (image 0 ≡ opened 0) ⊎ (image 0 ≡ decided 0) → StandsBehind in_flight one_part trace image
      by (inl e) = record {
        kept = kept_told opened_told [];
        stands = new-stands read reads opened opened_told [] (opened-new read) image (as-opened image is e);
        is = left-without;
        numbers = tt;
      }
      by (inr e) = record {
        kept = kept_told decided_told [];
        stands = new-stands read reads decided decided_told [] (decided-new read) image (as-decided image is e);
        is = left-with;
        numbers = tt;
      }

  -- it is as promised
  pub in-flight : ((t : Trace) → IsPlayed t → WellKept (start_of t).kept → Promises t) → Runs in_flight
  in-flight law = runs_as refl (record {
    goes = λ tells. inr (record {
      start = start;
      trace = trace;
      opens = λ told. opens read reads;
      well = well;
      can_stop = refl;
      early = refl;
      over_net = refl;
      net = refl;
      agreed = tt;
      tells = record { begins = refl; told = refl; played = played };
      promises = law trace played well;
      unspent = ((((tt, refl), tt), tt), tt);
      drains = drains;
      stops = record { stops = []; behind = refl; are = refl };
      does = record { texts = begins ∷ commits ∷ []; asked = asked; lines = lines; written = written };
      may = tt;
      leaves = refl;
      flies = flies;
      ends = record { images = λ told. images; spent = λ boot decisions e. absurd cc; full = λ dev e told. absurd cc };
    });
    source = refl;
    sink = refl;
    downs = (0, omega arith, (0, omega arith, (0, omega arith, (0, omega arith, (omega arith, omega arith)))));
    stops = λ tells off. record { stops = []; behind = refl; are = refl };
    shape = record { count = refl; can_stop = refl; told = refl; limit = λ dev. refl };
    others = λ told dev low out c. beside dev out c;
  })
    where
      well : WellKept nothing_kept
      well = record { boots = tt; accepted = tt; defined = tt; tries = tt }

      beside : (dev : ℕ) → 5 ≤ dev → (c : List ℕ) → (c ≡ opened dev) ⊎ (c ≡ decided dev) → c ≡ []
      beside dev out c (inl h) = h ∙ beside-logs (opened 0) (opened 1) (opened 2) (opened 3) dev out
      beside dev out c (inr h) = h ∙ beside-logs (decided 0) (decided 1) (decided 2) (decided 3) dev out
