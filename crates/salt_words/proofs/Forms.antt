-- A setting in one word and in two.
use Rattle.salt_words.proofs.Givens.{none-given, one-given, two-given}
use Rattle.salt_promise.specs.Words.{Given, all_given, begins_with_dash, given, given_by, given_in, given_to, is_equals_sign, name_of, settings_given, settings_said, value_in}
use Rattle.salt_promise.specs.declared.command.Setting.TheVariants.{Folder, Parts, Place}
use Rattle.salt_promise.specs.declared.command.Setting.{Setting}
use Rattle.std.proofs.Common.{ap, arith, refl, sym, ◌∙◌}
use Rattle.std.proofs.lemmas.Bool.Decides.{nat_tests}
use Rattle.std.specs.List.{position_or_len}
use Rattle.std.specs.Prelude.{List, None, Option, Some, [], codes, drop, false, if◌then◌else◌, length, nat_lt, option_and_then, option_map, take, true, ℕ, ◌+◌, ◌<◌, ◌++◌, ◌∷◌, ◌≡◌}

unfoldable pub one_word : Setting → List ℕ → List ℕ
one_word setting value = name_of setting ++ codes "=" ++ value

within : (at n : ℕ) → at < n → nat_lt at n ≡ true
within at n h = grind (arith, nat_tests)

-- a word whose first `=` stands at this place
cut-at : (word : List ℕ) (at : ℕ) → position_or_len is_equals_sign word ≡ at → at < length word → value_in word ≡ given_to (take at word) (drop (at + 1) word)
cut-at word at e h = rw (e, within at (length word) h) refl

pub in-one : (setting : Setting) (value : List ℕ) → given_in (one_word setting value) ≡ Some (given setting value)
unfolding one_word
in-one Parts value = cut-at (one_word Parts value) 7 refl (omega arith)
in-one Folder value = cut-at (one_word Folder value) 5 refl (omega arith)
in-one Place value = cut-at (one_word Place value) 7 refl (omega arith)

pub name-alone : (setting : Setting) → given_in (name_of setting) ≡ None
name-alone Parts = refl
name-alone Folder = refl
name-alone Place = refl

named : (setting : Setting) (value : List ℕ) → given_to (name_of setting) value ≡ Some (given setting value)
named Parts value = refl
named Folder value = refl
named Place value = refl

pub by-two : (setting : Setting) (value : List ℕ) → begins_with_dash value ≡ false → given_by (name_of setting) value ≡ Some (given setting value)
by-two setting value h = ap (λ t. if t then None else given_to (name_of setting) value) h ∙ named setting value

no-name : (word : List ℕ) (setting : Setting) → given_by word (name_of setting) ≡ None
no-name word Parts = refl
no-name word Folder = refl
no-name word Place = refl

no-one-word : (word : List ℕ) (setting : Setting) (value : List ℕ) → given_by word (one_word setting value) ≡ None
unfolding one_word
no-one-word word Parts value = refl
no-one-word word Folder value = refl
no-one-word word Place value = refl

pub same-first : (setting : Setting) (value : List ℕ) (after : List (List ℕ)) → begins_with_dash value ≡ false →
    all_given (name_of setting ∷ value ∷ after) ≡ all_given (one_word setting value ∷ after)
same-first setting value after h =
    two-given (name_of setting) value after (given setting value) (name-alone setting) (by-two setting value h)
    ∙ sym (one-given (one_word setting value) after (given setting value) (in-one setting value))

behind-alone : (word : List ℕ) (setting : Setting) (value : List ℕ) (after : List (List ℕ)) (o : Option Given) → given_in word ≡ o → begins_with_dash value ≡ false →
    all_given (word ∷ name_of setting ∷ value ∷ after) ≡ all_given (word ∷ one_word setting value ∷ after)
behind-alone word setting value after (Some g) e h =
    one-given word _ g e
    ∙ ap (option_map (λ gs. g ∷ gs)) (same-first setting value after h)
    ∙ sym (one-given word _ g e)
behind-alone word setting value after None e h =
    none-given word (name_of setting) (value ∷ after) e (no-name word setting)
    ∙ sym (none-given word (one_word setting value) after e (no-one-word word setting value))

behind-two : (word next : List ℕ) (xs ys : List (List ℕ)) (o p : Option Given) → given_in word ≡ o → given_by word next ≡ p →
    all_given (next ∷ xs) ≡ all_given (next ∷ ys) → all_given xs ≡ all_given ys → all_given (word ∷ next ∷ xs) ≡ all_given (word ∷ next ∷ ys)
behind-two word next xs ys (Some g) p e f behind_one behind_two =
    one-given word (next ∷ xs) g e ∙ ap (option_map (λ gs. g ∷ gs)) behind_one ∙ sym (one-given word (next ∷ ys) g e)
behind-two word next xs ys None (Some g) e f behind_one behind_two =
    two-given word next xs g e f ∙ ap (option_map (λ gs. g ∷ gs)) behind_two ∙ sym (two-given word next ys g e f)
behind-two word next xs ys None None e f behind_one behind_two = none-given word next xs e f ∙ sym (none-given word next ys e f)

same-behind : (setting : Setting) (value : List ℕ) (before after : List (List ℕ)) → begins_with_dash value ≡ false →
    all_given (before ++ name_of setting ∷ value ∷ after) ≡ all_given (before ++ one_word setting value ∷ after)
same-behind setting value [] after h = same-first setting value after h
same-behind setting value (word ∷ []) after h = behind-alone word setting value after (given_in word) refl h
same-behind setting value (word ∷ next ∷ before) after h =
    behind-two word next (before ++ name_of setting ∷ value ∷ after) (before ++ one_word setting value ∷ after) (given_in word) (given_by word next) refl refl (same-behind setting value (next ∷ before) after h) (same-behind setting value before after h)

pub settings-same : (setting : Setting) (value : List ℕ) (before after : List (List ℕ)) → begins_with_dash value ≡ false →
    settings_said (before ++ name_of setting ∷ value ∷ after) ≡ settings_said (before ++ (name_of setting ++ codes "=" ++ value) ∷ after)
unfolding one_word
settings-same setting value before after h = ap (option_and_then settings_given) (same-behind setting value before after h)
