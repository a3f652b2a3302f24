-- Bytes that are collected piece by piece.
use Rattle.std.proofs.Common.{List, Option, [], ap, append-nil, append_assoc, arith, drop, length-append, sym, take, ℕ, ◌++◌, ◌+◌, ◌∙◌}
use Rattle.std.proofs.Math.Seq.{take-add}
use Rattle.std.proofs.lemmas.List.{take-append-drop}
use Rattle.salt_io.specs.Collects.{Moves}
use Rattle.salt_io.specs.Streams.{GainsShort}
use Rattle.salt_io.proofs.Taking.{gains-append, gains-none}

pub moves-none : (held : Option (List ℕ)) (waiting : List ℕ) → Moves held waiting [] held waiting
moves-none held waiting = record { part = []; gained = gains-none held; all = append-nil waiting }

-- what waited has been written in part
moves-on : {a b c : Option (List ℕ)} {w v u t : List ℕ} → Moves a w t b v → Moves b v [] c u → Moves a w t c u
moves-on {a} {b} {c} {v = v} {u = u} m n = record {
  part = m.part ++ n.part;
  gained = gains-append a b c m.part n.part m.gained n.gained;
  all = m.all ∙ ap (λ x. m.part ++ x) (sym (append-nil v) ∙ n.all) ∙ sym (append_assoc m.part n.part u);
}

-- more bytes wait
moves-kept : {a c : Option (List ℕ)} {w t u : List ℕ} (more : List ℕ) → Moves a w t c u → Moves a w (t ++ more) c (u ++ more)
moves-kept {w = w} {t = t} {u = u} more m = record {
  part = m.part;
  gained = m.gained;
  all = sym (append_assoc w t more) ∙ ap (λ x. x ++ more) m.all ∙ append_assoc m.part u more;
}

pub moves-more : {a b c : Option (List ℕ)} {w v u : List ℕ} (bytes : List ℕ) (done n : ℕ) → Moves a w (take done bytes) b v → Moves b v [] c u →
    Moves a w (take (done + n) bytes) c (u ++ take n (drop done bytes))
moves-more bytes done n m k = rw (take-add done n bytes) (moves-kept (take n (drop done bytes)) (moves-on m k))

pub moves-short : {a b c : Option (List ℕ)} {w v : List ℕ} (bytes : List ℕ) (done : ℕ) → Moves a w (take done bytes) b v → GainsShort b (v ++ []) c →
    GainsShort a (w ++ bytes) c
moves-short {a} {b} {c} {w} {v} bytes done m short = record {
  part = m.part ++ short.part;
  missing = short.missing ++ drop done bytes;
  whole = ap (λ x. w ++ x) (sym (take-append-drop done bytes)) ∙ sym (append_assoc w (take done bytes) (drop done bytes))
      ∙ ap (λ x. x ++ drop done bytes) (m.all ∙ ap (λ x. m.part ++ x) (sym (append-nil v) ∙ short.whole) ∙ sym (append_assoc m.part short.part short.missing))
      ∙ append_assoc (m.part ++ short.part) short.missing (drop done bytes);
  some = omega (arith, short.some, length-append short.missing (drop done bytes));
  gained = gains-append a b c m.part short.part m.gained short.gained;
}
