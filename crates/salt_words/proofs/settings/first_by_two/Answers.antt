use Rattle.salt_words.proofs.Givens.{bytes-of-front, bytes-of-none, none-alone, none-given, two-given}
use Rattle.salt_words.proofs.settings.first_by_two.Goals as goal
use Rattle.salt_promise.specs.Words.{given_by}
use Rattle.salt_words.specs.Meanings.{given_meant}
use Rattle.std.proofs.Common.{None, Some, ap, arith, length, sym, ◌∙◌, string_bytes, ◌<◌, ◌≡◌}

pub returns-in-empty-clause-all : goal.returns-in-empty-clause-all
returns-in-empty-clause-all c = rw (bytes-of-none c.args.words.now c.in-empty.len_below) (none-alone c.args.name.now c.requires)

pub returns-in-Some-clause-all : goal.returns-in-Some-clause-all
returns-in-Some-clause-all c =
    let some : 0 < length c.args.words.now = omega arith in
    let e = bytes-of-front c.args.words.now c.next-item.result some c.next-item.is in
    let d : given_by c.args.name.now (string_bytes c.next-item.result) ≡ Some (given_meant c.in-Some.given) = ap (given_by c.args.name.now) (sym c.deref.ensures) ∙ sym c.in-Some.ensures in
    rw e (two-given _ _ _ _ c.requires d)

pub returns-in-None-clause-all : goal.returns-in-None-clause-all
returns-in-None-clause-all c =
    let some : 0 < length c.args.words.now = omega arith in
    let e = bytes-of-front c.args.words.now c.next-item.result some c.next-item.is in
    let d : given_by c.args.name.now (string_bytes c.next-item.result) ≡ None = ap (given_by c.args.name.now) (sym c.deref.ensures) ∙ sym c.in-None.ensures in
    rw e (none-given _ _ _ c.requires d)
