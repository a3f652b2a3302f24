use Rattle.salt_words.proofs.Givens.{bytes-of-front, one-given}
use Rattle.salt_words.proofs.settings.first_given.Goals as goal
use Rattle.salt_promise.specs.Words.{given_in}
use Rattle.salt_words.specs.Meanings.{given_meant}
use Rattle.std.proofs.Common.{Some, ap, arith, length, sym, ◌∙◌, string_bytes, ◌<◌, ◌≡◌}

pub returns-in-Some-clause-all : goal.returns-in-Some-clause-all
returns-in-Some-clause-all c =
    let some : 0 < length c.args.words.now = omega arith in
    let e = bytes-of-front c.args.words.now c.word-item.result some c.word-item.is in
    let d : given_in (string_bytes c.word-item.result) ≡ Some (given_meant c.in-Some.given) = ap given_in (sym c.deref.ensures) ∙ sym c.in-Some.ensures in
    rw e (one-given _ _ _ d)
