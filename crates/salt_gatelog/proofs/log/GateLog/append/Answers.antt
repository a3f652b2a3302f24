use Rattle.salt_disk.specs.Disks.{EachImage, FullExactly}
use Rattle.salt_gatelog.proofs.Appends.{at_start, weaker}
use Rattle.salt_gatelog.proofs.log.GateLog.append.Goals as goal
use Rattle.salt_gatelog.specs.Log.{IsBeforeOrWith, IsLog, payload_in}
use Rattle.std.proofs.Common.{[], ap, arith, length, subst, ℕ, List, ◌+◌, ◌++◌, ◌≡◌, ◌∙◌, ◌∷◌}
use Rattle.std.specs.Prelude.{OnOk}
use Rattle.std.specs.Result.{result_err}

pub append_frame-requires-clause-front : goal.append_frame-requires-clause-front
append_frame-requires-clause-front g c = omega (arith, ap length (c.in_ok-extend_from_slice.ensures.items ∙ ap (λ (l : List ℕ). l ++ c.args.payload.now) c.in_ok-frame.ensures))

pub returns-in_err-frame-clause-images : goal.returns-in_err-frame-clause-images
returns-in_err-frame-clause-images g c entries is =
    let log = c.args.self.now in
    let d = g.D.Disks.view c.args.disks.now in
    weaker d log.dev entries c.args.payload.now (at_start entries c.args.payload.now log d (omega arith) is)

pub returns-in_err-extend_from_slice-clause-images : goal.returns-in_err-extend_from_slice-clause-images
returns-in_err-extend_from_slice-clause-images g c entries is =
    let log = c.args.self.now in
    let d = g.D.Disks.view c.args.disks.now in
    weaker d log.dev entries c.args.payload.now (at_start entries c.args.payload.now log d (omega arith) is)

pub returns-clause-ok : goal.returns-clause-ok
returns-clause-ok g c entries is =
    let same : payload_in c.extend_from_slice.new.self.items ≡ c.args.payload.now = ap payload_in (c.in_ok-extend_from_slice.ensures.items ∙ ap (λ (l : List ℕ). l ++ c.args.payload.now) c.in_ok-frame.ensures) in
    subst (λ (payload : List ℕ). OnOk c.append_frame.result (IsLog (g.D.Disks.view c.append_frame.new.disks) c.append_frame.new.self (entries ++ payload ∷ []))) same (c.append_frame.ensures.ok entries is)

pub returns-clause-images : goal.returns-clause-images
returns-clause-images g c entries is =
    let same : payload_in c.extend_from_slice.new.self.items ≡ c.args.payload.now = ap payload_in (c.in_ok-extend_from_slice.ensures.items ∙ ap (λ (l : List ℕ). l ++ c.args.payload.now) c.in_ok-frame.ensures) in
    subst (λ (payload : List ℕ). EachImage (g.D.Disks.view c.append_frame.new.disks) c.args.self.now.dev (IsBeforeOrWith entries payload)) same (c.append_frame.ensures.images entries is)

pub returns-clause-full : goal.returns-clause-full
returns-clause-full g c =
    let log = c.args.self.now in
    let d = g.D.Disks.view c.args.disks.now in
    let same : payload_in c.extend_from_slice.new.self.items ≡ c.args.payload.now = ap payload_in (c.in_ok-extend_from_slice.ensures.items ∙ ap (λ (l : List ℕ). l ++ c.args.payload.now) c.in_ok-frame.ensures) in
    subst (λ (payload : List ℕ). FullExactly log.dev (d.limit log.dev) (log.end + 10 + length payload) (result_err c.append_frame.result)) same c.append_frame.ensures.full
