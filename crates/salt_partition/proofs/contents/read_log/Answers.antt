use Rattle.salt_bytes.specs.Formats.{has_nulls}
use Rattle.salt_bytes.specs.Partition.{partition_header_in}
use Rattle.salt_codec.specs.Entries.{header_of}
use Rattle.salt_gatelog.proofs.Entries.{keeps_then}
use Rattle.salt_partition.proofs.contents.read_log.Goals as goal
use Rattle.salt_bytes.specs.Spellable.{Every}
use Rattle.salt_partition.proofs.Keyed.{if_some}
use Rattle.salt_partition.proofs.Seen.{no_units, other_part, whole}
use Rattle.salt_partition.specs.Contents.{ArePut, NamesSides, units_of}
use Rattle.salt_stands.specs.PartitionLog.{gathered}
use Rattle.std.proofs.Common.{None, Some, [], ap, drop, slice_get, sym, true, ◌≡◌, ◌∙◌}
use Rattle.std.proofs.lemmas.Bool.{eq-eqb, ne_eqb}
use Rattle.std.proofs.lemmas.Result.{err_from_is_err_and}
use Rattle.std.specs.Prelude.{option_map, ◌==◌, option_and_then}

pub returns-in_err-units-clause-kept : goal.returns-in_err-units-clause-kept
returns-in_err-units-clause-kept g c =
    let p = err_from_is_err_and c.from_residual-in_err-units.result c.from_residual-in_err-units.ensures.1 in
    rw (p.1, p.2) (keeps_then (g.D.Disks.view c.args.disks.now) (g.D.Disks.view c.header_at.new.disks) (g.D.Disks.view c.read_units.new.disks) (Some c.in_err-units.field-0.0) c.in_ok-header.ensures.kept c.in_err-units.ensures.kept)

pub returns-in-None-clause-kept : goal.returns-in-None-clause-kept
returns-in-None-clause-kept g c = keeps_then (g.D.Disks.view c.args.disks.now) (g.D.Disks.view c.header_at.new.disks) (g.D.Disks.view c.read_units.new.disks) None c.in_ok-header.ensures.kept c.in_ok-units.ensures.kept

pub returns-in-None-clause-content : goal.returns-in-None-clause-content
returns-in-None-clause-content g c entries first some = record {
  seen = λ now.
      let told1 = sym c.in_ok-units.ensures.kept.shape.told ∙ now in
      let told = sym c.in_ok-header.ensures.kept.shape.told ∙ told1 in
      let h = header_of c.in-Some.header in
      let head : Some h ≡ option_and_then partition_header_in (slice_get entries 0) = ap (option_map header_of) (sym c.in-Some.is) ∙ c.in_ok-header.ensures.header entries first told in
      let own : (h.part == c.args.part) ≡ true = eq-eqb _ _ c.if-header-part.false in
      let none : None ≡ gathered (has_nulls h.format) (Some []) (drop 1 entries) =
      ap (option_map (λ units. units_of units.items)) (sym c.in-None.is) ∙ c.in_ok-units.ensures.units entries (c.in_ok-header.ensures.log entries first) told1
      ∙ ap (λ nulls. gathered nulls (Some []) (drop 1 entries)) c.has_nulls.ensures in
      no_units c.args.part entries h some head own none;
  log = tt;
}

pub returns-then-header-part-clause-content : goal.returns-then-header-part-clause-content
returns-then-header-part-clause-content g c entries first some = record {
  seen = λ now.
      let told = sym c.in_ok-header.ensures.kept.shape.told ∙ now in
      let h = header_of c.in-Some.header in
      let head : Some h ≡ option_and_then partition_header_in (slice_get entries 0) = ap (option_map header_of) (sym c.in-Some.is) ∙ c.in_ok-header.ensures.header entries first told in
      other_part c.args.part entries h some head (ne_eqb h.part c.args.part c.if-header-part.true);
  log = tt;
}

pub returns-in-Some-2-clause-kept : goal.returns-in-Some-2-clause-kept
returns-in-Some-2-clause-kept g c = keeps_then (g.D.Disks.view c.args.disks.now) (g.D.Disks.view c.header_at.new.disks) (g.D.Disks.view c.read_units.new.disks) None c.in_ok-header.ensures.kept c.in_ok-units.ensures.kept

pub returns-in-Some-2-clause-content : goal.returns-in-Some-2-clause-content
returns-in-Some-2-clause-content g c entries first some = record {
  seen = λ now.
      let told1 = sym c.in_ok-units.ensures.kept.shape.told ∙ now in
      let told = sym c.in_ok-header.ensures.kept.shape.told ∙ told1 in
      let h = header_of c.in-Some.header in
      let head : Some h ≡ option_and_then partition_header_in (slice_get entries 0) = ap (option_map header_of) (sym c.in-Some.is) ∙ c.in_ok-header.ensures.header entries first told in
      let own : (h.part == c.args.part) ≡ true = eq-eqb _ _ c.if-header-part.false in
      let all : Some (units_of c.in-Some-2.units.items) ≡ gathered (has_nulls h.format) (Some []) (drop 1 entries) =
      ap (option_map (λ units. units_of units.items)) (sym c.in-Some-2.is) ∙ c.in_ok-units.ensures.units entries (c.in_ok-header.ensures.log entries first) told1
      ∙ ap (λ nulls. gathered nulls (Some []) (drop 1 entries)) c.has_nulls.ensures in
      whole c.args.part entries h (units_of c.in-Some-2.units.items) some head own all;
  log = (c.in_ok-units.ensures.log entries (c.in_ok-header.ensures.log entries first), c.in_ok-units.ensures.same.device ∙ c.in_ok-header.ensures.same.device, if_some c.in_ok-units.field-0 c.in-Some-2.units (λ units. Every ArePut (units_of units.items)) c.in-Some-2.is c.in_ok-units.ensures.put, if_some c.in_ok-header.field-0 c.in-Some.header (λ header. NamesSides (header_of header)) c.in-Some.is c.in_ok-header.ensures.sides);
}
