-- Refusals, by their texts.
use Rattle.salt_ast.specs.Limits.{limit_word}
use Rattle.salt_ast.specs.declared.limit.LimitName.TheVariants as limit
use Rattle.salt_ast.specs.declared.limit.LimitName.{LimitName}
use Rattle.salt_events.specs.Fronts.{behind, id_at}
use Rattle.salt_events.specs.Names.{name_at}
use Rattle.salt_events.specs.Reading.{either, if_empty, number_in}
use Rattle.salt_model.specs.declared.events.Refusal.TheVariants as refused
use Rattle.salt_model.specs.declared.events.Refusal.{Refusal}
use Rattle.salt_ast.specs.TokenSpelling.{same_bytes}
use Rattle.salt_values.specs.declared.id.Id.{Id}
use Rattle.salt_values.specs.declared.limits.TheConstants.{PARTS_MOST}
use Rattle.std.specs.Bool.{then_some}
use Rattle.std.specs.Prelude.{List, None, Option, Some, [], codes, find, if◌then◌else◌, is_some, nat_le, option_and_then, option_map, ℕ, ◌&&◌, ◌∷◌, ◌||◌}

abbrev pub all_limits : List LimitName
all_limits =
    limit.Session ∷ limit.Name ∷ limit.Number ∷ limit.Text ∷ limit.Tables ∷ limit.Columns ∷ limit.Checks ∷
    limit.Programs ∷ limit.Parts ∷ limit.Retry ∷ limit.Statements ∷ limit.Parameters ∷ limit.Variables ∷ limit.Depth ∷
    limit.Crash ∷ limit.Pick ∷ limit.Pairs ∷ limit.Net ∷ limit.Act ∷ limit.Bases ∷ []

-- the limit that has this word
abbrev pub limit_in : List ℕ → Option LimitName
limit_in bytes = find (λ l. same_bytes bytes (limit_word l)) all_limits

abbrev pub name_in : List ℕ → Option (List ℕ)
name_in bytes = option_and_then (λ r. if_empty r.0 r.1) (name_at bytes)

abbrev pub id_in : List ℕ → Option Id
id_in bytes = option_and_then (λ r. if_empty r.0 r.1) (id_at bytes)

abbrev pub base_in : List ℕ → Option Id
base_in bytes = option_and_then id_in (behind (codes "b") bytes)

abbrev pub unknown_in : List ℕ → Option Refusal
unknown_in bytes = then_some (is_some (name_in bytes) || is_some (base_in bytes)) (refused.Unknown bytes)

abbrev pub exists_in : List ℕ → Option Refusal
exists_in bytes = then_some (is_some (name_in bytes)) (refused.Exists bytes)

abbrev pub branch_of : ℕ → Option Refusal
branch_of n = then_some (nat_le 1 n && nat_le n PARTS_MOST) (refused.Branch n)

abbrev pub branch_in : List ℕ → Option Refusal
branch_in bytes = option_and_then branch_of (number_in bytes)

abbrev pub plain_refusal_in : List ℕ → Option Refusal
plain_refusal_in bytes =
    if same_bytes bytes (codes "1 long") then Some refused.Long else
    if same_bytes bytes (codes "2 byte") then Some refused.Byte else
    if same_bytes bytes (codes "3 syntax") then Some refused.Syntax else
    if same_bytes bytes (codes "7 type") then Some refused.Mistyped else
    if same_bytes bytes (codes "9 state") then Some refused.State else
    if same_bytes bytes (codes "10 busy") then Some refused.Busy else None

abbrev pub refusal_in : List ℕ → Option Refusal
refusal_in bytes =
    either (behind (codes "4 limit ") bytes) (λ r. option_map refused.Limit (limit_in r))
    (either (behind (codes "5 unknown ") bytes) unknown_in
    (either (behind (codes "6 exists ") bytes) exists_in
    (either (behind (codes "8 branch ") bytes) branch_in (plain_refusal_in bytes))))
