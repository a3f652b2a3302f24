use Rattle.salt_books.proofs.Replaced.{replaced-all, replaced-at, replaced-length, replaced-other, replaced-same, replaced_to}
use Rattle.salt_books.proofs.conts.replace_cont.Goals as goal
use Rattle.salt_books.proofs.conts.replace_cont.Goals.{else-is_same_id, then-is_same_id+in_ok-copy}
use Rattle.salt_values.specs.Id.{is_same_id}
use Rattle.salt_values.specs.declared.cont.Cont.{Cont}
use Rattle.std.proofs.Common.{ap, arith, length, set, suc, sym, get_or, ◌+◌, ◌<◌, ◌≡◌, ◌∙◌}

pub loop-at-smaller : goal.loop-at-smaller
loop-at-smaller c =
    let len : length c.loop-at.conts ≡ length c.args.conts.now =
    ap length c.loop-at.invariant.so_far ∙ replaced-length c.args.cont.now c.loop-at.at c.args.conts.now in
    omega (arith, len, c.loop-at-test.true, c.len.ensures)

pub loop-at-preserved : goal.loop-at-preserved
loop-at-preserved c =
    let at = c.loop-at.at in
    let cont = c.args.cont.now in
    let old = c.args.conts.now in
    let now = c.loop-at.conts in
    let so_far : now ≡ replaced_to cont at old = c.loop-at.invariant.so_far in
    let len : length now ≡ length old = ap length so_far ∙ replaced-length cont at old in
    let within : at < length old = omega (arith, len, c.loop-at-test.true, c.len.ensures) in
    let one : Cont = c.index-as_slice-at.result in
    let placed : get_or c.as_slice.result.now at one ≡ get_or old at one = ap (λ cs. get_or cs at one) (c.as_slice.ensures ∙ so_far) ∙ replaced-at cont at old one within in
    let test = c.is_same_id.ensures ∙ ap (λ (d : Cont). is_same_id cont.base d.base) placed in
    let more : suc at ≡ at + 1 = omega arith in
    record {
      within = omega (arith, within);
      so_far = elim c.if-is_same_id.branch [
        | then-is_same_id+in_ok-copy w ↦ w.conts-is ∙ w.set.ensures ∙ (λ i. set (so_far i) at (w.in_ok-copy.ensures i))
            ∙ replaced-same cont at old one within (sym test ∙ w.if-is_same_id.true) ∙ ap (λ n. replaced_to cont n old) more
        | else-is_same_id w ↦ w.conts-is ∙ so_far ∙ replaced-other cont at old one within (sym test ∙ w.if-is_same_id.false) ∙ ap (λ n. replaced_to cont n old) more
      ];
    }

pub returns : goal.returns
returns c =
    let len : length c.loop-at.conts ≡ length c.args.conts.now =
    ap length c.loop-at.invariant.so_far ∙ replaced-length c.args.cont.now c.loop-at.at c.args.conts.now in
    c.loop-at.invariant.so_far
    ∙ replaced-all c.args.cont.now c.loop-at.at c.args.conts.now (omega (arith, len, c.loop-at-test.false, c.len.ensures))
