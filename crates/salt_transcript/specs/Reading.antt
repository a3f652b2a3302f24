-- What is known behind lines that are read, and what becomes of it by the next one.
use Rattle.law_texts.specs.EventLines.{Inline}
use Rattle.salt_audit.specs.Retelling.{retold}
use Rattle.salt_audit.specs.Transcripts.{ArePrintableOn, IsShowable, SoFar, lines_so_far, tables_told, text_so_far}
use Rattle.salt_audit.specs.Verdicts.{broken, found_in, sound, unformed}
use Rattle.salt_audit.specs.declared.verdict.Law.{Law}
use Rattle.salt_audit.specs.declared.verdict.Verdict.{Verdict}
use Rattle.salt_events.specs.Lines.{GoesOn}
use Rattle.salt_model.specs.Naming.{IsNaming}
use Rattle.salt_model.specs.Printable.{IsPrintable}
use Rattle.salt_model.specs.Words.{Every}
use Rattle.salt_model.specs.declared.events.Event.{Event}
use Rattle.salt_model.specs.declared.shown.Item.{Item}
use Rattle.salt_transcript.specs.Stopping.{Settles}
use Rattle.salt_transcript.specs.declared.pieces.Pieces.{Pieces}
use Rattle.salt_transcript.specs.declared.reader.Reader.{Reader}
use Rattle.salt_values.specs.declared.id.Id.{Id}
use Rattle.salt_judge.specs.Judging.{HoldsAll}
use Rattle.salt_judge.specs.declared.judge.Judge.{Judge}
use Rattle.std.specs.Prelude.{Bool, List, Option, [], false, length, suc, true, ℕ, ◌++◌, ◌+◌, ◌∷◌, ◌≡◌}

-- what is known is that of a sound story, whose tables have names, each another
pub record HasTold (judge : Judge) (story : List Event) : Type 0 where
  pub holds : HoldsAll judge (retold story)
  pub found : found_in story ≡ sound
  pub naming : IsNaming (tables_told story)

-- what is read so far is this
pub record HasRead (r : Reader) (s : SoFar) : Type 0 where
  pub told : HasTold r.judge s.story
  pub items : r.items ≡ s.items
  pub events : r.events ≡ length s.story
  pub lines : r.lines ≡ lines_so_far s
  pub printable : ArePrintableOn (retold []) s.story
  pub showable : Every (IsShowable (tables_told s.story)) s.items

-- nothing is still to come
abbrev pub is_all_told : List Item → List ℕ → Bool
is_all_told [] [] = true
is_all_told items rest = false

-- an event is taken over, of whatever story was told
pub record HasTaken (r t : Reader) (e : Event) : Type 0 where
  pub told : (story : List Event) → HasTold r.judge story → HasTold t.judge (story ++ e ∷ [])
  pub items : t.items ≡ r.items
  pub events : t.events ≡ r.events + 1
  pub lines : t.lines ≡ r.lines + 1

-- an event fits no story that was told
pub record HasRefused (r t : Reader) (e : Event) : Type 0 where
  pub found : (story : List Event) → HasTold r.judge story → found_in (story ++ e ∷ []) ≡ unformed (suc (length story))
  pub events : t.events ≡ r.events

-- an event breaks a law, behind whatever story was told
pub record HasBroken (r t : Reader) (e : Event) (law : Law) (u : Id) : Type 0 where
  pub found : (story : List Event) → HasTold r.judge story → found_in (story ++ e ∷ []) ≡ broken law u (suc (length story))
  pub events : t.events ≡ r.events

-- a line goes on with what is read
pub record GoesOnTo (r : Reader) (s : SoFar) (line : List ℕ) : Type 0 where
  pub now : SoFar
  pub read : HasRead r now
  pub text : text_so_far now ≡ text_so_far s ++ (line ++ 10 ∷ [])

-- a line tells an event that does not fit
pub record EndsUnformed (r : Reader) (s : SoFar) (line : List ℕ) : Type 0 where
  pub event : Event
  pub printable : IsPrintable (tables_told s.story) event
  pub text : text_so_far (record { story = s.story ++ event ∷ []; items = [] }) ≡ text_so_far s ++ (line ++ 10 ∷ [])
  pub found : found_in (s.story ++ event ∷ []) ≡ unformed (suc (length s.story))
  pub events : r.events ≡ length s.story

-- a line tells an event that breaks a law
pub record EndsBroken (r : Reader) (s : SoFar) (line : List ℕ) (law : Law) (u : Id) : Type 0 where
  pub event : Event
  pub printable : IsPrintable (tables_told s.story) event
  pub text : text_so_far (record { story = s.story ++ event ∷ []; items = [] }) ≡ text_so_far s ++ (line ++ 10 ∷ [])
  pub found : found_in (s.story ++ event ∷ []) ≡ broken law u (suc (length s.story))
  pub events : r.events ≡ length s.story

-- a line goes on with no story
pub record GoesNowhere (r : Reader) (s : SoFar) (line : List ℕ) : Type 0 where
  pub nowhere : (after : List Item) (told : Option Event) → GoesOn (tables_told s.story) s.items line (after, told) → ⊥
  pub lines : r.lines ≡ lines_so_far s

-- this is the verdict on all bytes that begin with what is read and then the line, and the line gives it
abbrev pub EndsAs : SoFar → List ℕ → Verdict → Type 0
EndsAs s line v = (bytes more : List ℕ) → Inline line → bytes ≡ text_so_far s ++ (line ++ (10 ∷ more)) → Settles bytes more v

-- these bytes came: what is read so far, and then what is at hand of a line that has not ended
pub record HasCome (p : Pieces) (bytes : List ℕ) : Type 0 where
  pub so_far : SoFar
  pub read : HasRead p.reader so_far
  pub inline : Inline p.rest.items
  pub text : bytes ≡ text_so_far so_far ++ p.rest.items
