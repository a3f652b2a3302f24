-- The order of spots: that of the keys of their rows, where each is a spot of a row.
use Rattle.salt_loaded.specs.Keys.{key_text}
use Rattle.salt_loaded.specs.declared.order.Spot.{Spot}
use Rattle.salt_values.specs.declared.value.Value.TheVariants.{Int, Null, Text}
use Rattle.salt_values.specs.declared.value.Value.{Value}
use Rattle.std.specs.Cmp.Lexicographic.{slice_cmp}
use Rattle.std.specs.Ordering.{int_cmp, nat_cmp, on, ordering_then, then_cmp}
use Rattle.std.specs.Prelude.{List, [], drop, if◌then◌else◌, ℕ, ◌==◌}
use Rattle.std.specs.declared.cmp.Ordering.{Ordering}

abbrev pub spot_text : List ℕ → Spot → List ℕ
spot_text bytes s = if s.kind == 1 then key_text (drop s.at bytes) else []

abbrev pub spot_order : List ℕ → Spot → Spot → Ordering
spot_order bytes = then_cmp (on (λ (s : Spot). s.kind) nat_cmp) (then_cmp (on (λ (s : Spot). s.number) int_cmp) (on (spot_text bytes) (slice_cmp nat_cmp)))

abbrev pub spot_against : List ℕ → Spot → Value → Ordering
spot_against bytes s (Int z) = ordering_then (nat_cmp s.kind 0) (int_cmp s.number z)
spot_against bytes s (Text t) = ordering_then (nat_cmp s.kind 1) (slice_cmp nat_cmp (spot_text bytes s) t)
spot_against bytes s Null = nat_cmp s.kind 2
