-- The lines of a piece, taken over one after another.
use Rattle.law_texts.specs.EventLines.{Inline}
use Rattle.salt_audit.specs.Transcripts.{text_so_far}
use Rattle.salt_audit.specs.declared.verdict.Verdict.{Verdict}
use Rattle.salt_transcript.specs.Reading.{HasCome, HasRead}
use Rattle.salt_transcript.specs.Stopping.{Settles}
use Rattle.salt_transcript.specs.declared.pieces.Pieces.{Pieces}
use Rattle.salt_transcript.specs.declared.reader.Reader.{Reader}
use Rattle.std.proofs.Common.{List, [], ap, append_assoc, arith, subst, sym, ℕ, ◌++◌, ◌∙◌, ◌∷◌, ◌≡◌}
use Rattle.std.proofs.lemmas.List.{length-append}

inline_append : (a b : List ℕ) → Inline a → Inline b → Inline (a ++ b)
inline_append [] b g h = h
inline_append (x ∷ a) b g h = (g.0, inline_append a b g.1 h)

-- what ends no line is at hand behind the rest
pub at_hand : (p q : Pieces) (all done left : List ℕ) (come : HasCome p done) → all ≡ done ++ left → Inline left → q.reader ≡ p.reader → q.rest.items ≡ p.rest.items ++ left → HasCome q all
at_hand p q all done left come e inline same rest = record {
  so_far = come.so_far;
  read = subst (λ (r : Reader). HasRead r come.so_far) (sym same) come.read;
  inline = subst Inline (sym rest) (inline_append p.rest.items left come.inline inline);
  text = e
      ∙ ap (λ (l : List ℕ). l ++ left) come.text
      ∙ append_assoc (text_so_far come.so_far) p.rest.items left
      ∙ ap (λ (l : List ℕ). text_so_far come.so_far ++ l) (sym rest);
}

pub inline_joined : (p : Pieces) (done line : List ℕ) → HasCome p done → Inline line → Inline (p.rest.items ++ line)
inline_joined p done line come h = inline_append p.rest.items line come.inline h

-- of what came before a piece and with it, some is told, then some is at hand, and a line is in front of what is left
module _ (before piece done left told rest line behind : List ℕ) (all : before ++ piece ≡ done ++ left) (come : done ≡ told ++ rest) (front : left ≡ line ++ (10 ∷ behind))
    (whole : List ℕ) (joined : whole ≡ rest ++ line) where
  pub line_told : (more : List ℕ) → before ++ (piece ++ more) ≡ told ++ (whole ++ (10 ∷ (behind ++ more)))
  line_told more =
      sym (append_assoc before piece more)
      ∙ ap (λ (l : List ℕ). l ++ more) (all ∙ ap (λ (l : List ℕ). l ++ left) come)
      ∙ append_assoc (told ++ rest) left more
      ∙ append_assoc told rest (left ++ more)
      ∙ ap (λ (l : List ℕ). told ++ l)
      (ap (λ (l : List ℕ). rest ++ (l ++ more)) front
      ∙ ap (λ (l : List ℕ). rest ++ l) (append_assoc line (10 ∷ behind) more)
      ∙ sym (append_assoc rest line (10 ∷ (behind ++ more)))
      ∙ ap (λ (l : List ℕ). l ++ (10 ∷ (behind ++ more))) (sym joined))

  -- once it is taken over, no more is told of the piece
  pub line_taken : (now : List ℕ) → now ≡ told ++ (whole ++ 10 ∷ []) → before ++ piece ≡ now ++ behind
  line_taken now e =
      all
      ∙ ap (λ (l : List ℕ). l ++ left) come
      ∙ append_assoc told rest left
      ∙ ap (λ (l : List ℕ). told ++ l)
      (ap (λ (l : List ℕ). rest ++ l) front ∙ sym (append_assoc rest line (10 ∷ behind)) ∙ ap (λ (l : List ℕ). l ++ (10 ∷ behind)) (sym joined)
      ∙ sym (append_assoc whole (10 ∷ []) behind))
      ∙ sym (append_assoc told (whole ++ 10 ∷ []) behind)
      ∙ ap (λ (l : List ℕ). l ++ behind) (sym e)

-- a verdict that a line of the piece gives is given before what is behind the piece
pub settles_before : (bytes behind more : List ℕ) (v : Verdict) → Settles bytes (behind ++ more) v → Settles bytes more v
settles_before bytes behind more v h =
    let parts = length-append behind more in
    record { is = h.is; stops = λ left to. let stops = h.stops left to in omega (arith, stops, parts) }
