-- How far a run came in its script: from one line to the next, and where it ends.
use Rattle.salt_values.specs.declared.limits.TheConstants.{SCRIPT_MOST}
use Rattle.salt_io.proofs.ScriptLaws.{script_of-append}
use Rattle.salt_io.specs.Lines.{IsCutOff, IsLineOf, IsReadingOf, ScriptReading, TakesLine, TakesNoLine, lines_of, script_of, with_rest}
use Rattle.salt_io.specs.Streams.{IsAtEnd, Takes, bytes_before}
use Rattle.salt_promise.specs.Doing.{AreFirstLines, IsFrontOf}
use Rattle.salt_promise.specs.declared.status.Status.TheVariants.{Done, ReadFault, ScriptTooLong}
use Rattle.salt_loop.specs.Run.{AreLinesOf}
use Rattle.salt_loop.specs.Serving.{IsAtPlace, IsAtLine, rest_of}
use Rattle.salt_loop.specs.Stopping.{IsOfLine, status_of}
use Rattle.salt_loop.specs.declared.stop.Stop.TheVariants as stop
use Rattle.salt_loop.specs.declared.stop.Stop.{Stop}
use Rattle.std.proofs.Common.{ap, append-nil, append_assoc, arith, inl, inr, length-append, subst, sym, ◌∙◌}
use Rattle.std.proofs.Math.Seq.{take-append-add}
use Rattle.std.specs.Prelude.{Bool, List, None, Option, Some, [], false, length, refl, take, true, ℕ, ◌++◌, ◌+◌, ◌-◌, ◌<◌, ◌∷◌, ◌≡◌, ◌≢◌, ◌≤◌, ◌⊎◌}

some_is : {A : Type 0} (x y : A) → Some x ≡ Some y → x ≡ y
some_is x y e = cc

-- what stands behind is told where the whole is
behind : (script given : List ℕ) (rest : Option (List ℕ)) → Some script ≡ bytes_before given rest → (bytes : List ℕ) × (rest ≡ Some bytes) × (script ≡ given ++ bytes)
behind script given None e = absurd cc
behind script given (Some bytes) e = (bytes, refl, some_is _ _ e)

bytes_before-append : (a b : List ℕ) (rest : Option (List ℕ)) → bytes_before a (bytes_before b rest) ≡ bytes_before (a ++ b) rest
bytes_before-append a b None = refl
bytes_before-append a b (Some c) = ap (λ (l : List ℕ). Some l) (sym (append_assoc a b c))

rest-nil : (ended : List (List ℕ)) (rest : List ℕ) → rest ≡ [] → with_rest ended rest ≡ ended
rest-nil ended rest e = rw e refl

rest-some : (ended : List (List ℕ)) (rest : List ℕ) → rest ≢ [] → with_rest ended rest ≡ ended ++ rest ∷ []
rest-some ended [] n = absurd (n refl)
rest-some ended (b ∷ bs) n = refl

with_rest-append : (a b : List (List ℕ)) (rest : List ℕ) → with_rest (a ++ b) rest ≡ a ++ with_rest b rest
with_rest-append a b [] = refl
with_rest-append a b (x ∷ xs) = append_assoc a b ((x ∷ xs) ∷ [])

-- at a line's start, the lines of more bytes come behind
lines_of-append : (a b : List ℕ) → (script_of a).rest ≡ [] → lines_of (a ++ b) ≡ lines_of a ++ lines_of b
lines_of-append a b start =
    ap (λ s. with_rest s.ended s.rest) (script_of-append a b start)
    ∙ with_rest-append (script_of a).ended (script_of b).ended (script_of b).rest
    ∙ ap (λ ls. ls ++ lines_of b) (sym (rest-nil (script_of a).ended (script_of a).rest start))

-- the bytes of one line
line-lines : (text used : List ℕ) (ended : Bool) → IsLineOf text used ended → lines_of used ≡ text ∷ []
line-lines text used ended (inl e) = ap (λ s. with_rest s.ended s.rest) e
line-lines text used ended (inr l) = ap (λ s. with_rest s.ended s.rest) l.2 ∙ rest-some [] text l.1

line-start : (text given used : List ℕ) (ended : Bool) → (script_of given).rest ≡ [] → IsLineOf text used ended → ((script_of (given ++ used)).rest ≡ []) ⊎ (ended ≡ true)
line-start text given used ended start (inl e) = inl (ap (λ s. s.rest) (script_of-append given used start) ∙ ap (λ s. s.rest) e)
line-start text given used ended start (inr l) = inr l.0

none-taken : (used : List ℕ) (before after : Option (List ℕ)) (bytes : List ℕ) → before ≡ Some bytes → IsAtEnd before → Takes before used after → 0 < length used → ⊥
none-taken used before after bytes is end takes some =
    let at : Some bytes ≡ bytes_before used after = sym is ∙ takes in
    let b = behind bytes used after at in
    let none : bytes ≡ [] = subst IsAtEnd is end in
    absurd (omega (arith, length-append used b.0, ap length (sym b.2 ∙ none)))

-- once the source told its end, nothing stands behind
pub over-before : (reading : ScriptReading) (left : Option (List ℕ)) → IsReadingOf reading left → reading.ended ≡ true → IsAtEnd (rest_of reading left)
over-before reading left of ended = let over = of ended in rw over.0 (nil-before left over.1)
  where
    nil-before : (left : Option (List ℕ)) → IsAtEnd left → IsAtEnd (bytes_before [] left)
    nil-before None h = tt
    nil-before (Some rest) h = h

module _ (reading reading_after : ScriptReading) (left : Option (List ℕ)) (after : Option (List ℕ)) (texts : List (List ℕ)) (text : List ℕ) (of : IsReadingOf reading left)
    (line : TakesLine SCRIPT_MOST (rest_of reading left) after reading.taken reading_after text) where
  next-line-place : (script : List ℕ) → IsAtLine script reading (rest_of reading left) texts → IsAtLine script reading_after after (texts ++ text ∷ [])
  next-line-place script at = by at.at_start
    where
      by : ((script_of at.given).rest ≡ []) ⊎ (reading.ended ≡ true) → IsAtLine script reading_after after (texts ++ text ∷ [])
      by (inl start) = record {
        given = at.given ++ line.used;
        whole = at.whole ∙ ap (bytes_before at.given) line.given ∙ bytes_before-append at.given line.used after;
        counted = length-append at.given line.used ∙ ap (λ n. n + length line.used) at.counted ∙ sym line.counted;
        lines = ap (λ ls. ls ++ text ∷ []) at.lines ∙ ap (λ ls. lines_of at.given ++ ls) (sym (line-lines text line.used reading_after.ended line.line)) ∙ sym (lines_of-append at.given line.used start);
        at_start = line-start text at.given line.used reading_after.ended start line.line;
      }
      by (inr ended) =
          let b = behind script at.given (rest_of reading left) at.whole in
          absurd (none-taken line.used (rest_of reading left) after b.0 b.1 (over-before reading left of ended) line.given line.some)

  pub next-place : (script : Option (List ℕ)) → IsAtPlace script reading (rest_of reading left) texts → IsAtPlace script reading_after after (texts ++ text ∷ [])
  next-place None at = tt
  next-place (Some script) at = next-line-place script at

-- the script's end
pub end-place : (script : Option (List ℕ)) (reading : ScriptReading) (rest left : Option (List ℕ)) (texts : List (List ℕ)) → IsAtPlace script reading rest texts → IsAtEnd rest → reading.taken ≤ SCRIPT_MOST → AreLinesOf Done script left texts
end-place None reading rest left texts at end within = tt
end-place (Some script) reading rest left texts at end within =
    let b = behind script at.given rest at.whole in
    let none : b.0 ≡ [] = subst IsAtEnd b.1 end in
    let all : script ≡ at.given = b.2 ∙ ap (λ l. at.given ++ l) none ∙ append-nil at.given in
    (at.lines ∙ ap lines_of (sym all), omega (arith, ap length all, at.counted))

-- a source that failed, which had not told its end
pub fault-place : (script : Option (List ℕ)) (reading : ScriptReading) (before left : Option (List ℕ)) (texts : List (List ℕ)) → IsAtPlace script reading before texts → reading.ended ≡ false
    → TakesNoLine (SCRIPT_MOST - reading.taken) before left → reading.taken ≤ SCRIPT_MOST → AreLinesOf ReadFault script left texts
fault-place None reading before left texts at unended cut within = tt
fault-place (Some script) reading before left texts at unended cut within = record {
  got = at.given ++ cut.got;
  given = at.whole ∙ ap (bytes_before at.given) cut.given ∙ bytes_before-append at.given cut.got left;
  within = omega (arith, length-append at.given cut.got, at.counted, cut.within);
  lines = by at.at_start;
}
  where
    by : ((script_of at.given).rest ≡ []) ⊎ (reading.ended ≡ true) → texts ≡ (script_of (at.given ++ cut.got)).ended
    by (inl start) =
        at.lines ∙ rest-nil (script_of at.given).ended (script_of at.given).rest start
        ∙ sym (append-nil (script_of at.given).ended) ∙ ap (λ ls. (script_of at.given).ended ++ ls) (sym cut.no_line)
        ∙ sym (ap (λ s. s.ended) (script_of-append at.given cut.got start))
    by (inr ended) = absurd (both ended unended)
      where
        both : reading.ended ≡ true → reading.ended ≡ false → ⊥
        both a b = cc

-- a script of too many bytes
pub long-place : (script : Option (List ℕ)) (reading : ScriptReading) (before left : Option (List ℕ)) (texts : List (List ℕ)) → IsAtPlace script reading before texts
    → (reading.ended ≡ true → IsAtEnd before) → IsCutOff (SCRIPT_MOST - reading.taken) before → reading.taken ≤ SCRIPT_MOST → AreLinesOf ScriptTooLong script left texts
long-place None reading before left texts at over cut within = tt
long-place (Some script) reading before left texts at over cut within = by at.at_start
  where
    b : (bytes : List ℕ) × (before ≡ Some bytes) × (script ≡ at.given ++ bytes)
    b = behind script at.given before at.whole

    cut_here : IsCutOff (SCRIPT_MOST - reading.taken) (Some b.0)
    cut_here = subst (IsCutOff (SCRIPT_MOST - reading.taken)) b.1 cut

    long : SCRIPT_MOST < length script
    long = omega (arith, ap length b.2, length-append at.given b.0, at.counted, cut_here.0)

    front : take SCRIPT_MOST script ≡ at.given ++ take (SCRIPT_MOST - reading.taken) b.0
    front =
        let count : SCRIPT_MOST ≡ length at.given + (SCRIPT_MOST - reading.taken) = omega (arith, at.counted) in
        ap (take SCRIPT_MOST) b.2 ∙ ap (λ n. take n (at.given ++ b.0)) count ∙ take-append-add at.given b.0 (SCRIPT_MOST - reading.taken)

    by : ((script_of at.given).rest ≡ []) ⊎ (reading.ended ≡ true) → (texts ≡ (script_of (take SCRIPT_MOST script)).ended) × (SCRIPT_MOST < length script)
    by (inl start) = (
      at.lines ∙ rest-nil (script_of at.given).ended (script_of at.given).rest start
          ∙ sym (append-nil (script_of at.given).ended) ∙ ap (λ ls. (script_of at.given).ended ++ ls) (sym cut_here.1)
          ∙ sym (ap (λ s. s.ended) (script_of-append at.given (take (SCRIPT_MOST - reading.taken) b.0) start)) ∙ ap (λ l. (script_of l).ended) (sym front),
      long,
    )
    by (inr ended) = let empty : b.0 ≡ [] = subst IsAtEnd b.1 (over ended) in absurd (omega (arith, ap length empty, cut_here.0))

-- anywhere, the lines so far are the first lines
first-lines : (script : List ℕ) (reading : ScriptReading) (rest : Option (List ℕ)) (texts : List (List ℕ)) → IsAtLine script reading rest texts → (reading.ended ≡ true → IsAtEnd rest)
    → reading.taken ≤ SCRIPT_MOST → AreFirstLines script texts
first-lines script reading rest texts at over within = record {
  got = at.given;
  front = (b.0, b.2);
  within = omega (arith, at.counted);
  lines = at.lines;
  first = by at.at_start;
}
  where
    b : (bytes : List ℕ) × (rest ≡ Some bytes) × (script ≡ at.given ++ bytes)
    b = behind script at.given rest at.whole

    by : ((script_of at.given).rest ≡ []) ⊎ (reading.ended ≡ true) → IsFrontOf texts (lines_of script)
    by (inl start) = (lines_of b.0, ap lines_of b.2 ∙ lines_of-append at.given b.0 start ∙ ap (λ ls. ls ++ lines_of b.0) (sym at.lines))
    by (inr ended) =
        let empty : b.0 ≡ [] = subst IsAtEnd b.1 (over ended) in
        ([], ap lines_of (b.2 ∙ ap (λ l. at.given ++ l) empty ∙ append-nil at.given) ∙ sym at.lines ∙ sym (append-nil texts))

-- so where a run ends in a line
pub first-place : (s : Stop) → IsOfLine s → (script : Option (List ℕ)) (reading : ScriptReading) (rest left : Option (List ℕ)) (texts : List (List ℕ)) → IsAtPlace script reading rest texts
    → (reading.ended ≡ true → IsAtEnd rest) → reading.taken ≤ SCRIPT_MOST → AreLinesOf (status_of s) script left texts
first-place s of None reading rest left texts at over within = tt
first-place stop.Memory of (Some script) reading rest left texts at over within = first-lines script reading rest texts at over within
first-place stop.WriteFault of (Some script) reading rest left texts at over within = first-lines script reading rest texts at over within
first-place stop.DiskFault of (Some script) reading rest left texts at over within = first-lines script reading rest texts at over within
first-place (stop.DeviceFull dev) of (Some script) reading rest left texts at over within = first-lines script reading rest texts at over within
first-place (stop.NumbersSpent boot decisions) of (Some script) reading rest left texts at over within = first-lines script reading rest texts at over within
first-place stop.ReadFault of (Some script) reading rest left texts at over within = absurd of
first-place (stop.NotSalt dev) of (Some script) reading rest left texts at over within = absurd of
first-place (stop.OtherShape kept asked) of (Some script) reading rest left texts at over within = absurd of
first-place stop.ScriptTooLong of (Some script) reading rest left texts at over within = absurd of
