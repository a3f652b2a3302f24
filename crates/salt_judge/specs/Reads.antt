-- What is known of who changed a place last, whom units have read from, and which programs are released.
use Rattle.salt_audit.specs.Laws.{changed_in, read_from}
use Rattle.salt_audit.specs.Marks.{is_marked}
use Rattle.salt_audit.specs.Order.{id_cmp}
use Rattle.salt_audit.specs.Standing.{begun_in}
use Rattle.salt_audit.specs.declared.state.Begun.{Begun}
use Rattle.salt_model.specs.Programs.{freed_by, released_in, shares}
use Rattle.salt_model.specs.Reads.{last_of_each}
use Rattle.salt_model.specs.Reads as model
use Rattle.salt_model.specs.Trace.{Trace}
use Rattle.salt_model.specs.Units.{is_of_program, program_of_kind}
use Rattle.salt_model.specs.Words.{widened}
use Rattle.salt_model.specs.declared.events.Event.TheVariants.{Did}
use Rattle.salt_model.specs.declared.events.Event.{Event}
use Rattle.salt_values.specs.Id.{has_id, is_same_id}
use Rattle.salt_values.specs.declared.id.Id.{Id}
use Rattle.salt_verdict.specs.declared.ledger.Ledger.{Ledger}
use Rattle.salt_judge.specs.declared.reads.Opening.{Opening}
use Rattle.salt_judge.specs.declared.reads.Reads.{Reads}
use Rattle.salt_judge.specs.declared.reads.Sources.{Sources}
use Rattle.salt_judge.specs.declared.reads.Writing.{Writing}
use Rattle.std.specs.BTreeMap.{BTreeMap, get}
use Rattle.std.specs.List.{filter, list_all}
use Rattle.std.specs.Prelude.{Bool, List, None, Option, Some, [], false, if◌then◌else◌, is_none, length, map, not, option_and_then, true, ◌&&◌, ◌++◌, ◌||◌, ◌∷◌, ◌≡◌}

abbrev pub writing_told : Writing → model.Written
writing_told w = record { unit = w.unit; table = w.table; key = w.key }

abbrev pub units_read : Option Sources → List Id
units_read None = []
units_read (Some s) = s.units

-- whom the unit has read from
abbrev pub sources_in : Id → BTreeMap Id Sources → List Id
sources_in u sources = units_read (get id_cmp sources u)

-- the programs that these free, by early openings that named one of them, the latest first
abbrev pub freed_in : List Id → List Opening → List Id
freed_in bs [] = []
freed_in bs (o ∷ os) = if shares o.named bs then o.passed ++ freed_in bs os else freed_in bs os

pub record HoldsReads (r : Reads) (trace : Trace) : Type 0 where
  pub last : last_of_each (changed_in trace) ≡ map writing_told r.last.items
  pub sources : (u : Id) → read_from u trace ≡ sources_in u r.sources
  pub released : (b : Id) → has_id b (released_in trace) ≡ is_marked b r.released
  pub freed : (bs : List Id) → freed_by bs trace ≡ freed_in bs r.openings
  pub parts : (b v : Id) → is_of_program b trace v ≡ has_id v (sources_in b r.parts)

-- THE JUDGE

abbrev pub program_noted : Option Begun → Option Id
program_noted o = option_and_then (λ (n : Begun). program_of_kind n.kind) o

-- the program of a subtransaction
abbrev pub program_in : Ledger → Id → Option Id
program_in l u = program_noted (begun_in u l.state.units)

abbrev pub is_named : Id → Option Id → Bool
is_named b None = false
is_named b (Some c) = is_same_id b c

abbrev pub shares_program : Ledger → Option Id → Id → Bool
shares_program l None v = false
shares_program l (Some b) v = is_named b (program_in l v)

abbrev pub is_tied_by : Ledger → Reads → Id → Id → Bool
is_tied_by l r u v = has_id v (sources_in u r.sources) || shares_program l (program_in l u) v

-- the subtransactions of a program
abbrev pub parts_near : Reads → Option Id → List Id
parts_near r None = []
parts_near r (Some b) = sources_in b r.parts

-- whom the unit is tied to, by what is noted
abbrev pub near : Ledger → Reads → Id → List Id
near l r u = sources_in u r.sources ++ parts_near r (program_in l u)

-- whom the unit is tied to
abbrev pub ties_of : Ledger → Reads → Id → List Id
ties_of l r u = filter (is_tied_by l r u) l.order

abbrev pub is_free : BTreeMap Id Bool → Option Id → Bool
is_free released None = true
is_free released (Some b) = is_marked b released

abbrev pub chained : Ledger → Reads → Id → List Id
chained l r a = widened (ties_of l r) (length l.order) (a ∷ [])

-- the ACID unit of a statement from which a chain leads to what is not released, by what is known behind it
abbrev pub unsalted_of : Ledger → Reads → Id → List Id
unsalted_of l r a =
    if is_none (program_in l a) && not (list_all (λ (u : Id). is_free r.released (program_in l u)) (chained l r a)) then a ∷ [] else []

abbrev pub unsalted_by : Ledger → Reads → Event → List Id
unsalted_by l r (Did a st x) = unsalted_of l r a
unsalted_by l r e = []
