use Rattle.salt_bytes.specs.Log.{framed}
use Rattle.salt_gatelog.proofs.log.put_length.Goals as goal
use Rattle.salt_gatelog.specs.Log.{payload_in}
use Rattle.std.proofs.Common.{List, ap, arith, length, length-drop, ℕ, ◌++◌, ◌-◌, ◌≡◌, ◌∙◌}
use Rattle.std.specs.Int.{to_be_bytes, w64}

pub returns : goal.returns
unfolding framed
returns c =
    let payload = payload_in c.args.frame.now in
    let size : length c.args.frame.now - 8 ≡ length payload = omega (arith, length-drop 8 c.args.frame.now) in
    c.put_front.ensures ∙ ap (λ (l : List ℕ). l ++ payload) (c.to_be_bytes.ensures ∙ ap (λ (n : ℕ). to_be_bytes w64 n) size)
