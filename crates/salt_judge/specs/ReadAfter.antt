-- What is known behind an event of who read from whom, by what was known before it.
use Rattle.law_states.specs.Overlays.{Edit}
use Rattle.salt_ast.specs.declared.trees.Statement.{Statement}
use Rattle.salt_model.specs.Reaches.{reach}
use Rattle.salt_model.specs.Units.{program_of_kind}
use Rattle.salt_model.specs.Tables.{is_within, place, place_cmp}
use Rattle.salt_model.specs.declared.events.End.TheVariants.{Committed}
use Rattle.salt_model.specs.declared.events.End.{End}
use Rattle.salt_model.specs.declared.events.Event.TheVariants.{Began, Did, Early, Ended, Ready, Released}
use Rattle.salt_model.specs.declared.events.Event.{Event}
use Rattle.salt_model.specs.declared.locks.Reach.{Reach}
use Rattle.salt_values.specs.Id.{has_id, is_same_id, without}
use Rattle.salt_values.specs.declared.id.Id.{Id}
use Rattle.salt_verdict.specs.Ledger.{run_by}
use Rattle.salt_audit.specs.Marks.{is_marked}
use Rattle.salt_judge.specs.Reads.{freed_in, is_named, sources_in}
use Rattle.salt_verdict.specs.declared.ledger.Ledger.{Ledger}
use Rattle.salt_judge.specs.declared.reads.Opening.{Opening}
use Rattle.salt_judge.specs.declared.reads.Reads.{Reads}
use Rattle.salt_judge.specs.declared.reads.Sources.{Sources}
use Rattle.salt_judge.specs.declared.reads.Writing.{Writing}
use Rattle.std.specs.BTreeMap.{BTreeMap}
use Rattle.std.specs.List.{filter}
use Rattle.std.specs.Ordering.{is_eq}
use Rattle.std.specs.Prelude.{Bool, List, None, Option, Some, [], if◌then◌else◌, map, not, ◌++◌, ◌||◌, ◌∷◌, ◌≡◌}

-- what a statement of the unit would reach
abbrev pub reach_by : Ledger → Id → Statement → Option Reach
reach_by l u st = reach l.state.schema (run_by l u).vars st

abbrev pub is_written_within : Reach → Writing → Bool
is_written_within r w = is_within r (place w.table w.key)

-- the last writers of the keys in a reach
abbrev pub changers : List Writing → Option Reach → List Id
changers last None = []
changers last (Some r) = map (λ (w : Writing). w.unit) (filter (is_written_within r) last)

abbrev pub is_elsewhere : Writing → Writing → Bool
is_elsewhere w v = not (is_eq (place_cmp (place w.table w.key) (place v.table v.key)))

abbrev pub written_first : Writing → List Writing → List Writing
written_first w last = w ∷ filter (is_elsewhere w) last

abbrev pub writing_of : Id → Edit → Writing
writing_of u d = record { unit = u; table = d.0.table; key = d.0.key }

abbrev pub put_edits : Id → List Edit → List Writing → List Writing
put_edits u [] last = last
put_edits u (d ∷ ds) last = written_first (writing_of u d) (put_edits u ds last)

abbrev pub last_at : End → Id → Ledger → List Writing → List Writing
last_at (Committed n) u l last = put_edits u (run_by l u).changes.list last
last_at end u l last = last

abbrev pub last_by : Event → Ledger → List Writing → List Writing
last_by (Ended u end) l last = last_at end u l last
last_by e l last = last

abbrev pub sources_as : List Id → Sources
sources_as units = record { units = units }

abbrev pub sources_by : Event → Ledger → List Writing → BTreeMap Id Sources → Id → List Id
sources_by (Did v st x) l last sources u =
    if is_same_id u v then changers last (reach_by l v st) ++ sources_in u sources else sources_in u sources
sources_by e l last sources u = sources_in u sources

abbrev pub released_by : Event → List Id → List Opening → BTreeMap Id Bool → Id → Bool
released_by (Released bs) bases os released b = has_id b bs || (has_id b (freed_in bs os) || is_marked b released)
released_by Ready bases os released b = has_id b bases || is_marked b released
released_by e bases os released b = is_marked b released

abbrev pub opened_early : List Id → List Id → Opening
opened_early bases named = record { named = named; passed = without named bases }

abbrev pub openings_by : Event → List Id → List Opening → List Opening
openings_by (Early named) bases os = opened_early bases named ∷ os
openings_by e bases os = os

-- a unit begins, maybe of a program
abbrev pub parts_by : Event → BTreeMap Id Sources → Id → List Id
parts_by (Began v kind) parts b = if is_named b (program_of_kind kind) then v ∷ sources_in b parts else sources_in b parts
parts_by e parts b = sources_in b parts

pub record IsReadAfter (l : Ledger) (r s : Reads) (e : Event) : Type 0 where
  pub last : s.last.items ≡ last_by e l r.last.items
  pub sources : (u : Id) → sources_in u s.sources ≡ sources_by e l r.last.items r.sources u
  pub released : (b : Id) → is_marked b s.released ≡ released_by e l.state.bases r.openings r.released b
  pub openings : s.openings ≡ openings_by e l.state.bases r.openings
  pub parts : (b : Id) → sources_in b s.parts ≡ parts_by e r.parts b
