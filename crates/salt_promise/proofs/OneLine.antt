-- A run of one line over blank devices of one partition: the line's byte 200 is refused, and told. Each part of what a run promises is
-- computed; the reader of definitions and the laws of played traces are given.
use Rattle.salt_disk.specs.Disks.{IsImage}
use Rattle.salt_model.specs.Computing.{computing}
use Rattle.salt_model.specs.Everywhere.{Always}
use Rattle.salt_model.specs.Kept.{Definition, WellKept, nothing_kept}
use Rattle.salt_model.specs.Lines.{AskInOrder, has_other_byte}
use Rattle.salt_model.specs.Played.{IsPlayed}
use Rattle.salt_model.specs.Rests.{DoesItsRests}
use Rattle.salt_model.specs.Segments.{IsComplete}
use Rattle.salt_model.specs.Trace as trace_words
use Rattle.salt_model.specs.Trace.{Rejected, Start, Trace, from, start_of, ◌asks◌, ◌says◌}
use Rattle.salt_model.specs.declared.events.Event.TheVariants.{Opened, Ready, Refused}
use Rattle.salt_model.specs.declared.events.Refusal.TheVariants.{Byte}
use Rattle.salt_promise.proofs.Devices.{beside-logs, kept_told, new-stands, opened-new, opened_told}
use Rattle.salt_promise.specs.Worked.{after, blank, one_line, one_part, opened, printed, script}
use Rattle.salt_promise.specs.Doing.{AreLinesOf, IsWritten, story_before_line, text_under}
use Rattle.salt_promise.specs.Ending.{StandsBehind}
use Rattle.salt_promise.specs.Promises.{Promises}
use Rattle.salt_promise.specs.Runs.{Runs, runs_as}
use Rattle.salt_promise.specs.Standing.{IsReader, OpenAs}
use Rattle.salt_promise.specs.Ways.{AllLines, Whole}
use Rattle.salt_stands.specs.Stands.{nothing_found}
use Rattle.salt_bytes.specs.Log.{entries_in}
use Rattle.std.proofs.Common.{arith, inl, inr, ◌∙◌}
use Rattle.std.specs.Prelude.{IfSome, List, Option, Some, [], false, refl, true, ℕ, ◌∷◌}

abbrev pub start : Start
start = record { kept = nothing_kept; can_stop = true; early = false; over_net = false }

abbrev pub served : Trace
served = from start says Opened 1 0 says Ready

abbrev pub trace : Trace
trace = served asks Rejected Byte says Refused Byte

pub opens : (read : List ℕ → Option Definition) → IsReader read → OpenAs one_part blank nothing_kept
unfolding entries_in
opens read is = record { found = nothing_found one_part; answers = record { read = read; reads = is; is = refl }; keeps = refl }

pub served-complete : IsComplete served
unfolding computing
served-complete = (refl, refl, refl)

pub complete : IsComplete trace
unfolding computing
complete = (refl, refl, refl)

pub played : IsPlayed trace
unfolding computing
played = ((((tt, (omega arith, omega arith, inl refl)), refl), served-complete), refl)

asked : AskInOrder ((200 ∷ []) ∷ []) (trace_words.lines_asked trace)
asked = (has_other_byte (omega arith) refl refl, tt)

lines : (IfSome (Some script) (λ bytes. AreLinesOf AllLines bytes (Some []) ((200 ∷ []) ∷ [])))
lines = (refl, omega arith, refl)

written : IsWritten Whole (Some []) (text_under trace (story_before_line trace)) (text_under trace (trace_words.story_of trace)) (Some printed)
unfolding computing
written = refl

drains : Always DoesItsRests trace
drains = (
  (
    (
      (
        λ opening. absurd (cc opening),
        λ opening. omega arith,
      ),
      λ opening. absurd (cc opening),
    ),
    λ opening. absurd (cc opening),
  ),
  λ opening. absurd (cc opening),
)

images : (read : List ℕ → Option Definition) → IsReader read → (image : ℕ → List ℕ) → IsImage after.devices image → StandsBehind one_line one_part trace image
images read reads image is = record {
  kept = kept_told opened_told [];
  stands = new-stands read reads opened opened_told [] (opened-new read) image is;
  is = record { boots = 0; most = omega arith; is = inl refl };
  numbers = tt;
}

-- it is as promised
pub meets : (read : List ℕ → Option Definition) → IsReader read → ((t : Trace) → IsPlayed t → WellKept (start_of t).kept → Promises t) → Runs one_line
meets read reads law = runs_as refl (record {
  goes = λ tells. inr (record {
    start = start;
    trace = trace;
    opens = λ told. opens read reads;
    well = well;
    can_stop = refl;
    early = refl;
    over_net = refl;
    net = refl;
    agreed = tt;
    tells = record { begins = refl; told = refl; played = played };
    promises = law trace played well;
    unspent = (((tt, refl), tt), tt);
    drains = drains;
    stops = record { stops = []; behind = refl; are = refl };
    does = record { texts = (200 ∷ []) ∷ []; asked = asked; lines = lines; written = written };
    may = tt;
    leaves = complete;
    flies = refl;
    ends = record { images = λ told image is. images read reads image is; spent = λ boot decisions e. absurd cc; full = λ dev e told. absurd cc };
  });
  source = refl;
  sink = refl;
  downs = (0, omega arith, (0, omega arith, (0, omega arith, omega arith)));
  stops = λ tells off. record { stops = []; behind = refl; are = refl };
  shape = record { count = refl; can_stop = refl; told = refl; limit = λ dev. refl };
  others = λ told dev low out c h. h ∙ beside-logs (opened 0) (opened 1) (opened 2) (opened 3) dev out;
})
  where
    well : WellKept nothing_kept
    well = record { boots = tt; accepted = tt; defined = tt; tries = tt }
