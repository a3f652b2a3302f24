-- A run that finds a definition on its devices: an empty script over a database with a table. The text of the table is read as the devices have it.
use Rattle.salt_ast.specs.Limits.{table_limit}
use Rattle.salt_ast.specs.Statements.{no_more}
use Rattle.salt_ast.specs.Tables.{int_field, is_table}
use Rattle.salt_ast.specs.Texts.{table_text}
use Rattle.salt_ast.specs.declared.trees.ColType.TheVariants as column
use Rattle.salt_ast.specs.declared.trees.TableDef.{TableDef}
use Rattle.salt_bytes.specs.Coordinator.{Boots, Defines, NumberedText, spell_entry}
use Rattle.salt_bytes.specs.Log.{entries_in, entries_up_to, framed, split_payload}
use Rattle.salt_disk.specs.Disks.{IsImage}
use Rattle.salt_model.specs.Computing.{computing}
use Rattle.salt_model.specs.Everywhere.{Always}
use Rattle.salt_model.specs.Kept.{Definition, Kept, OfTable, WellKept}
use Rattle.salt_model.specs.Played.{IsPlayed}
use Rattle.salt_model.specs.Printable.{IsSpelledTable}
use Rattle.salt_model.specs.Rests.{DoesItsRests}
use Rattle.salt_model.specs.Segments.{IsComplete}
use Rattle.salt_model.specs.Tables.{with_changes}
use Rattle.salt_model.specs.Trace.{Start, Trace, from, start_of, story_of, ◌says◌}
use Rattle.salt_model.specs.declared.events.Event.TheVariants.{Opened, Ready}
use Rattle.salt_promise.proofs.Devices.{IsNew, beside-logs, coordinator_told, kept_told, new-stands}
use Rattle.salt_promise.proofs.Opens.{opens}
use Rattle.salt_promise.specs.Doing.{IsWritten, story_before_line, text_under}
use Rattle.salt_promise.specs.Ending.{IsLeftBehind, StandsBehind}
use Rattle.salt_promise.specs.Given.{Run}
use Rattle.salt_promise.specs.Promises.{Promises}
use Rattle.salt_promise.specs.Runs.{Runs, runs_as}
use Rattle.salt_promise.specs.Standing.{IsReader, StandFor}
use Rattle.salt_promise.specs.Ways.{Whole}
use Rattle.salt_promise.specs.Worked.{ample, begun, header_at, holding, one_part}
use Rattle.salt_promise.specs.declared.command.Command.TheVariants.{Script}
use Rattle.salt_promise.specs.declared.status.Status.TheVariants.{Done}
use Rattle.salt_stands.specs.Coordinator.{Coordinator, are_sound, coordinator_at}
use Rattle.salt_stands.specs.CoordinatorLog.{Told}
use Rattle.salt_stands.specs.Fitting.{definitions_reading, is_refused}
use Rattle.salt_stands.specs.Stands.{logs_of}
use Rattle.salt_ast.specs.Pieces.{Lexes, Piece, blank, ended, token}
use Rattle.salt_ast.specs.TokenSpelling.{keyword_of, sign_of}
use Rattle.salt_ast.specs.declared.sign.Sign.TheVariants as mark
use Rattle.salt_ast.specs.declared.token.TokenKind.TheVariants as kind
use Rattle.std.proofs.Common.{ap, arith, inl, inr, sym, ◌∙◌}
use Rattle.std.specs.Option.{ok_or}
use Rattle.std.specs.Prelude.{List, None, Ok, Option, Result, Some, [], codes, false, not, option_map, refl, true, ℕ, ◌++◌, ◌∷◌, ◌≡◌, ◌≤◌, option_and_then}
use Rattle.std.specs.Bool.{then_some}

-- THE TABLE

abbrev table : TableDef
table = record { name = codes "t"; columns = record { name = codes "id"; kind = column.Int; nullable = false } ∷ []; checks = [] }

abbrev text : List ℕ
text = codes "create table t (id int key)"

abbrev word : List ℕ → Piece
word bytes = record { kind = kind.Word; text = bytes }

abbrev sign : List ℕ → Piece
sign bytes = record { kind = kind.Sign; text = bytes }

abbrev pieces : List Piece
pieces =
    word (codes "create") ∷ word (codes "table") ∷ word (codes "t") ∷ sign (codes "(")
    ∷ word (codes "id") ∷ word (codes "int") ∷ word (codes "key") ∷ sign (codes ")") ∷ []

lexes : Lexes text pieces
unfolding sign_of
lexes =
    token kind.Word (codes "create") (refl, (refl, (refl, (refl, (refl, (refl, tt)))))) refl
    (blank refl (token kind.Word (codes "table") (refl, (refl, (refl, (refl, (refl, tt))))) refl
    (blank refl (token kind.Word (codes "t") (refl, tt) refl
    (blank refl (token kind.Sign (codes "(") (mark.Open, refl) refl
    (token kind.Word (codes "id") (refl, (refl, tt)) refl
    (blank refl (token kind.Word (codes "int") (refl, (refl, (refl, tt))) refl
    (blank refl (token kind.Word (codes "key") (refl, (refl, (refl, tt))) refl
    (token kind.Sign (codes ")") (mark.Close, refl) tt ended))))))))))))

spelled : IsSpelledTable table
unfolding table_limit keyword_of sign_of
spelled = record { text = text; spells = record { tokens = pieces; lexes = lexes; spelled = is_table int_field no_more no_more }; within = refl }

canonical : text ≡ table_text table
unfolding computing
canonical = refl

-- THE DEVICES before the run, and behind it

abbrev numbered : NumberedText
numbered = record { number = 1; text = text }

abbrev defined : List (List ℕ) → ℕ → List ℕ
defined more = begun (header_at 0) (spell_entry (Boots 1) ∷ spell_entry (Defines numbered) ∷ more)

abbrev bytes_before : ℕ → List ℕ
bytes_before = defined []

abbrev bytes_behind : ℕ → List ℕ
bytes_behind = defined (spell_entry (Boots 2) ∷ [])

abbrev told_at : ℕ → Told
told_at boot = record { boot = boot; decisions = 1; definitions = numbered ∷ []; decided = [] }

abbrev definitions : List Definition
definitions = OfTable table ∷ []

module _ (read : List ℕ → Option Definition) (reads : IsReader read) where
  is-read : read text ≡ Some (OfTable table)
  is-read = (reads.each text (OfTable table)).1 (spelled, canonical)

  -- what the log makes of what is read of the text
  abbrev judged : (boot : ℕ) → Option Definition → Result (Option (Coordinator Definition)) ℕ
  judged boot read_as =
      (ok_or (option_map Some (option_and_then (λ ds. then_some (are_sound (definitions_reading read) (coordinator_told (told_at boot) []).log ds) (coordinator_told (told_at boot) ds)) (option_and_then (λ d. then_some (not (is_refused [] d)) (d ∷ [])) read_as))) 0)

  defines : (boot : ℕ) → judged boot (Some (OfTable table)) ≡ Ok (Some (coordinator_told (told_at boot) definitions))
  unfolding computing
  defines boot = refl

  judged-before : coordinator_at (definitions_reading read) (logs_of bytes_before) ≡ judged 1 (read text)
  unfolding entries_in entries_up_to split_payload framed
  judged-before = refl

  judged-behind : coordinator_at (definitions_reading read) (logs_of bytes_behind) ≡ judged 2 (read text)
  unfolding entries_in entries_up_to split_payload framed
  judged-behind = refl

  new-before : IsNew read bytes_before (told_at 1) definitions
  unfolding entries_in entries_up_to split_payload framed with_changes
  new-before = record { coordinator = judged-before ∙ ap (judged 1) is-read ∙ defines 1; part = refl }

  new-behind : IsNew read bytes_behind (told_at 2) definitions
  unfolding entries_in entries_up_to split_payload framed with_changes
  new-behind = record { coordinator = judged-behind ∙ ap (judged 2) is-read ∙ defines 2; part = refl }

-- THE RUN

abbrev pub finds_table : Run
finds_table = record {
  command = Some (Script one_part false false);
  before = record { source = record { bytes = Some []; faults = 0 }; sink = record { bytes = Some []; faults = 0 }; devices = holding ample bytes_before [] };
  after = record {
    source = record { bytes = Some []; faults = 0 };
    sink = record { bytes = Some (codes "opened 2 1" ++ 10 ∷ (codes "ready" ++ 10 ∷ [])); faults = 0 };
    devices = holding ample bytes_behind [];
  };
  status = Done;
  flight = None;
  story = Opened 2 1 ∷ Ready ∷ [];
  net = None;
}

abbrev at_first : Kept
at_first = kept_told (told_at 1) definitions

abbrev start : Start
start = record { kept = at_first; can_stop = true; early = false; over_net = false }

abbrev trace : Trace
trace = from start says Opened 2 1 says Ready

complete : IsComplete trace
unfolding computing
complete = (refl, refl, refl)

played : IsPlayed trace
unfolding computing
played = ((tt, (omega arith, omega arith, inl refl)), refl)

written : IsWritten Whole (Some []) (text_under trace (story_before_line trace)) (text_under trace (story_of trace)) finds_table.after.sink.bytes
unfolding computing
written = refl

drains : Always DoesItsRests trace
drains = ((λ opening. absurd (cc opening), λ opening. omega arith), λ opening. absurd (cc opening))

left : IsLeftBehind ⊥ trace (kept_told (told_at 2) definitions)
left = record { boots = 0; most = omega arith; is = inl refl }

module _ (read : List ℕ → Option Definition) (reads : IsReader read) where
  images : (image : ℕ → List ℕ) → IsImage finds_table.after.devices image → StandsBehind finds_table one_part trace image
  images image is = record {
    kept = kept_told (told_at 2) definitions;
    stands = new-stands read reads bytes_behind (told_at 2) definitions (new-behind read reads) image is;
    is = left;
    numbers = tt;
  }

  -- it is as promised
  pub finds-table : ((t : Trace) → IsPlayed t → WellKept (start_of t).kept → Promises t) → Runs finds_table
  finds-table law = runs_as refl (record {
    goes = λ tells. inr (record {
      start = start;
      trace = trace;
      opens = λ told. opens one_part bytes_before at_first stood refl;
      well = well;
      can_stop = refl;
      early = refl;
      over_net = refl;
      net = refl;
      agreed = tt;
      tells = record { begins = refl; told = refl; played = played };
      promises = law trace played well;
      unspent = ((tt, refl), tt);
      drains = drains;
      stops = record { stops = []; behind = refl; are = refl };
      does = record {
        texts = [];
        asked = tt;
        lines = (refl, omega arith, refl);
        written = written;
      };
      may = tt;
      leaves = complete;
      flies = refl;
      ends = record { images = λ told. images; spent = λ boot decisions e. absurd cc; full = λ dev e told. absurd cc };
    });
    source = refl;
    sink = refl;
    downs = (0, omega arith, (0, omega arith, omega arith));
    stops = λ tells off. record { stops = []; behind = refl; are = refl };
    shape = record { count = refl; can_stop = refl; told = refl; limit = λ dev. refl };
    others = λ told dev low out c h. h ∙ beside-both dev out;
  })
    where
      stood : StandFor one_part bytes_before at_first
      stood = new-stands read reads bytes_before (told_at 1) definitions (new-before read reads) bytes_before (λ dev low. refl)

      well : WellKept at_first
      well = record { boots = tt; accepted = tt; defined = tt; tries = tt }

      beside-both : (dev : ℕ) → 5 ≤ dev → bytes_behind dev ≡ bytes_before dev
      beside-both dev out =
          beside-logs (bytes_behind 0) (bytes_behind 1) (bytes_behind 2) (bytes_behind 3) dev out
          ∙ sym (beside-logs (bytes_before 0) (bytes_before 1) (bytes_before 2) (bytes_before 3) dev out)
