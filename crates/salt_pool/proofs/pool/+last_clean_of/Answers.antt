use Rattle.salt_pool.proofs.Clean.{last_of}
use Rattle.salt_pool.proofs.pool.+last_clean_of.Goals as goal
use Rattle.salt_pool.specs.Frames.{last_clean}
use Rattle.std.proofs.Common.{Some, ap, cond, sym, ℕ, ◌∙◌}

pub returns-then-is_among : goal.returns-then-is_among
returns-then-is_among g t c =
    let ds = c.args.dirty.now in
    let rest = c.next_back.new.self in
    let e : ℕ × g.row.P.Denot = (c.in_ok-page.page.now, c.in_ok-page._frame.now) in
    c.last_clean_of.ensures ∙ sym (ap (last_clean ds) c.in_ok-page.ensures.steps ∙ last_of ds rest e ∙ ap (λ b. cond b (last_clean ds rest) (Some e.0)) (sym c.is_among.ensures ∙ c.if-is_among.true))

pub returns-else-is_among : goal.returns-else-is_among
returns-else-is_among g t c =
    let ds = c.args.dirty.now in
    let rest = c.next_back.new.self in
    let e : ℕ × g.row.P.Denot = (c.in_ok-page.page.now, c.in_ok-page._frame.now) in
    sym (ap (last_clean ds) c.in_ok-page.ensures.steps ∙ last_of ds rest e ∙ ap (λ b. cond b (last_clean ds rest) (Some e.0)) (sym c.is_among.ensures ∙ c.if-is_among.false))
