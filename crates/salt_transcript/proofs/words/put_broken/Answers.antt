use Rattle.salt_transcript.proofs.words.put_broken.Goals as goal
use Rattle.salt_transcript.specs.Wording.{law_words}
use Rattle.std.proofs.Common.{List, ap, append_assoc, codes, ℕ, ◌++◌, ◌∙◌, ◌≡◌}
use Rattle.std.specs.Fmt.{decimal}

joined : (o w u b p s e n : List ℕ) → (((o ++ w) ++ (u ++ b)) ++ (p ++ s)) ++ (e ++ n) ≡ o ++ (w ++ ((u ++ (b ++ (p ++ s))) ++ (e ++ n)))
joined o w u b p s e n = simp append_assoc

pub returns : goal.returns
returns c =
    let u = c.args.unit in
    let old = c.args.text.now.items in
    c.in_ok-put-3.ensures
    ∙ ap (λ (l : List ℕ). l ++ (codes " " ++ decimal c.args.event))
    (c.in_ok-put-2.ensures
    ∙ ap (λ (l : List ℕ). l ++ (codes "." ++ decimal u.seq)) (c.in_ok-put.ensures ∙ ap (λ (l : List ℕ). l ++ (codes "u" ++ decimal u.boot)) c.in_ok-put_law.ensures))
    ∙ joined old (law_words c.args.law) (codes "u") (decimal u.boot) (codes ".") (decimal u.seq) (codes " ") (decimal c.args.event)
