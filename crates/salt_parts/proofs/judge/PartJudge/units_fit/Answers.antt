use Rattle.salt_codec.specs.Entries.{prepared_of}
use Rattle.salt_codec.specs.declared.prepared.PreparedUnit.{PreparedUnit}
use Rattle.salt_parts.proofs.Lists.{all_more}
use Rattle.salt_parts.proofs.judge.PartJudge.units_fit.Goals as goal
use Rattle.salt_stands.specs.Fitting.{definitions_reading}
use Rattle.salt_stands.specs.OpenedPart.{fits_definitions}
use Rattle.salt_stands.specs.Partition.{is_sound_change}
use Rattle.std.proofs.Common.{ap, arith, length, sym, ◌<◌, ◌≤◌, ◌∙◌}
use Rattle.std.proofs.lemmas.List.{take_all}
use Rattle.std.specs.List.{list_all}

pub loop-unit-preserved : goal.loop-unit-preserved
loop-unit-preserved g c read c' has =
    let l = c.loop-unit in
    let p = c.args.self.now.part in
    let low : l.unit-index < length c.args.units.now = omega (arith, c.loop-unit-test.true) in
    all_more (λ (u : PreparedUnit). fits_definitions (definitions_reading read) c' p (prepared_of u)) c.args.units.now l.unit-index c.unit-item.result low c.unit-item.is (l.invariant read c' has)
    (ap (list_all (is_sound_change (definitions_reading read) c' p)) (sym c.as_slice.ensures.value) ∙ sym (c.in_ok-changes_fit.ensures read c' has) ∙ c.if-not-branch.false)

pub returns : goal.returns
returns g c read c' has =
    let l = c.loop-unit in
    let f = λ (u : PreparedUnit). fits_definitions (definitions_reading read) c' c.args.self.now.part (prepared_of u) in
    let long : length c.args.units.now ≤ l.unit-index = omega (arith, c.loop-unit-test.false) in
    sym (ap (list_all f) (sym (take_all l.unit-index c.args.units.now long)) ∙ l.invariant read c' has)
