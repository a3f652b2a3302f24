-- What is given is what is spelled.
use Rattle.salt_words.proofs.Forms.{by-two, in-one, name-alone, one_word}
use Rattle.salt_words.proofs.Givens.{none-alone, none-given, one-given, two-given}
use Rattle.salt_words.specs.Spelling.{SpellsSettings, early_alone, in_one, in_two, net_alone, nothing}
use Rattle.salt_promise.specs.Words.{Given, all_given, begins_with_dash, ends_early, given, given_by, given_in, given_to, goes_over_net, is_equals_sign, name_of, value_in}
use Rattle.salt_promise.specs.declared.command.Setting.TheVariants.{Folder, Parts, Place}
use Rattle.salt_promise.specs.declared.command.Setting.{Setting}
use Rattle.std.proofs.Common.{ap, refl, subst, sym, ◌∙◌}
use Rattle.std.proofs.lemmas.Bool.{eqb-true}
use Rattle.std.proofs.lemmas.List.Quantifiers.{position-Some}
use Rattle.std.proofs.lemmas.List.{drop_more, take-append-drop}
use Rattle.std.proofs.lemmas.Slice.Eq.{bytes_eq-Decides}
use Rattle.std.specs.List.{position}
use Rattle.std.specs.Prelude.{Bool, List, None, Option, Some, [], codes, drop, false, if◌then◌else◌, option_and_then, option_map, take, true, ℕ, ◌+◌, ◌++◌, ◌∷◌, ◌↔◌, ◌≡◌}
use Rattle.std.specs.Str.{bytes_eq}

-- ---- what is spelled is given

pub given-spelled : {words : List (List ℕ)} {gs : List Given} → SpellsSettings words gs → all_given words ≡ Some gs
unfolding all_given one_word
given-spelled nothing = refl
given-spelled (in_one setting value {words} h) =
    one-given (one_word setting value) words (given setting value) (in-one setting value)
    ∙ ap (option_map (λ gs. given setting value ∷ gs)) (given-spelled h)
given-spelled (in_two setting value {words} d h) =
    two-given (name_of setting) value words (given setting value) (name-alone setting) (by-two setting value d)
    ∙ ap (option_map (λ gs. given setting value ∷ gs)) (given-spelled h)
given-spelled (early_alone {words} h) = one-given (codes "--early") words ends_early refl ∙ ap (option_map (λ gs. ends_early ∷ gs)) (given-spelled h)
given-spelled (net_alone {words} h) = one-given (codes "--net") words goes_over_net refl ∙ ap (option_map (λ gs. goes_over_net ∷ gs)) (given-spelled h)

-- ---- what is given is spelled

record IsNamed (said value : List ℕ) (g : Given) : Type 0 where
  setting : Setting
  name : said ≡ name_of setting
  same : given setting value ≡ g

named-by : (said value : List ℕ) (g : Given) (s t u : Bool) → (s ≡ true → said ≡ name_of Parts) → (t ≡ true → said ≡ name_of Folder) → (u ≡ true → said ≡ name_of Place) →
    option_map (λ (setting : Setting). given setting value) (if s then Some Parts else if t then Some Folder else if u then Some Place else None) ≡ Some g → IsNamed said value g
named-by said value g true t u parts folder place e =
    let is : given Parts value ≡ g = cc in
    record { setting = Parts; name = parts refl; same = is }
named-by said value g false true u parts folder place e =
    let is : given Folder value ≡ g = cc in
    record { setting = Folder; name = folder refl; same = is }
named-by said value g false false true parts folder place e =
    let is : given Place value ≡ g = cc in
    record { setting = Place; name = place refl; same = is }
named-by said value g false false false parts folder place e = absurd cc

named-as : (said value : List ℕ) (g : Given) → given_to said value ≡ Some g → IsNamed said value g
named-as said value g e =
    named-by said value g (bytes_eq said (name_of Parts)) (bytes_eq said (name_of Folder)) (bytes_eq said (name_of Place)) (bytes_eq-Decides said (name_of Parts)).0 (bytes_eq-Decides said (name_of Folder)).0
    (bytes_eq-Decides said (name_of Place)).0 e

joined : (setting : Setting) (value : List ℕ) → name_of setting ++ 61 ∷ value ≡ one_word setting value
unfolding one_word
joined Parts value = refl
joined Folder value = refl
joined Place value = refl

-- it is a value, in one word
record IsCut (word : List ℕ) (g : Given) : Type 0 where
  setting : Setting
  value : List ℕ
  spelled : word ≡ one_word setting value
  same : given setting value ≡ g

cut-by : (word : List ℕ) (g : Given) (o : Option ℕ) → position is_equals_sign word ≡ o →
    option_and_then (λ at. given_to (take at word) (drop (at + 1) word)) o ≡ Some g → IsCut word g
cut-by word g (Some at) e h =
    let p = position-Some is_equals_sign word at 0 e in
    let n = named-as (take at word) (drop (at + 1) word) g h in
    record {
      setting = n.setting;
      value = drop (at + 1) word;
      spelled = sym (take-append-drop at word)
          ∙ ap (λ d. take at word ++ d) (drop_more word at 0 p.0)
          ∙ ap (λ b. take at word ++ b ∷ drop (at + 1) word) (eqb-true _ 61 p.1)
          ∙ ap (λ name. name ++ 61 ∷ drop (at + 1) word) n.name
          ∙ joined n.setting (drop (at + 1) word);
      same = n.same;
    }
cut-by word g None e h = absurd cc

told-by : (name value : List ℕ) (g : Given) (t : Bool) → begins_with_dash value ≡ t → (if t then None else given_to name value) ≡ Some g →
    (begins_with_dash value ≡ false) × IsNamed name value g
told-by name value g true e h = absurd cc
told-by name value g false e h = (e, named-as name value g h)

behind : (g : Given) (o : Option (List Given)) (gs : List Given) → option_map (λ gs. g ∷ gs) o ≡ Some gs → (ys : List Given) × (o ≡ Some ys) × (g ∷ ys ≡ gs)
behind g (Some ys) gs e = (ys, refl, cc)
behind g None gs e = absurd cc

abbrev Reads : List (List ℕ) → Type 0
Reads words = (gs : List Given) → all_given words ≡ Some gs → SpellsSettings words gs

-- what a word spells that gives this
Begins : List ℕ → Given → Type 0
Begins word g = (words : List (List ℕ)) (gs : List Given) → SpellsSettings words gs → SpellsSettings (word ∷ words) (g ∷ gs)

word-spelled : (word : List ℕ) (g : Given) (t u : Bool) → bytes_eq word (codes "--early") ≡ t → bytes_eq word (codes "--net") ≡ u →
    (if t then Some ends_early else if u then Some goes_over_net else value_in word) ≡ Some g → Begins word g
unfolding Begins one_word
word-spelled word g true u e f h = λ words gs spells.
    let is : ends_early ≡ g = cc in
    subst (λ g. SpellsSettings (word ∷ words) (g ∷ gs)) is (subst (λ w. SpellsSettings (w ∷ words) (ends_early ∷ gs)) (sym ((bytes_eq-Decides word (codes "--early")).0 e)) (early_alone spells))
word-spelled word g false true e f h = λ words gs spells.
    let is : goes_over_net ≡ g = cc in
    subst (λ g. SpellsSettings (word ∷ words) (g ∷ gs)) is (subst (λ w. SpellsSettings (w ∷ words) (goes_over_net ∷ gs)) (sym ((bytes_eq-Decides word (codes "--net")).0 f)) (net_alone spells))
word-spelled word g false false e f h = λ words gs spells.
    let cut = cut-by word g (position is_equals_sign word) refl h in
    subst (λ g. SpellsSettings (word ∷ words) (g ∷ gs)) cut.same
    (subst (λ w. SpellsSettings (w ∷ words) (given cut.setting cut.value ∷ gs)) (sym cut.spelled) (in_one cut.setting cut.value spells))

one-spelled : (word : List ℕ) (words : List (List ℕ)) (g : Given) → given_in word ≡ Some g → Reads words → Reads (word ∷ words)
unfolding Begins
one-spelled word words g e reads = λ gs h.
    let b = behind g (all_given words) gs (sym (one-given word words g e) ∙ h) in
    let spells = word-spelled word g (bytes_eq word (codes "--early")) (bytes_eq word (codes "--net")) refl refl e words b.0 (reads b.0 b.1) in
    subst (λ gs. SpellsSettings (word ∷ words) gs) b.2 spells

two-spelled : (word next : List ℕ) (words : List (List ℕ)) (g : Given) → given_in word ≡ None → given_by word next ≡ Some g → Reads words → Reads (word ∷ next ∷ words)
two-spelled word next words g e f reads = λ gs h.
    let b = behind g (all_given words) gs (sym (two-given word next words g e f) ∙ h) in
    let t = told-by word next g (begins_with_dash next) refl f in
    subst (λ gs. SpellsSettings (word ∷ next ∷ words) gs) b.2
    (subst (λ w. SpellsSettings (w ∷ next ∷ words) (g ∷ b.0)) (sym t.1.name)
    (subst (λ g. SpellsSettings (name_of t.1.setting ∷ next ∷ words) (g ∷ b.0)) t.1.same (in_two t.1.setting next t.0 (reads b.0 b.1))))

reads-nothing : Reads []
unfolding all_given
reads-nothing = λ gs e. let is : [] ≡ gs = cc in subst (λ gs. SpellsSettings [] gs) is nothing

alone-reads : (word : List ℕ) (o : Option Given) → given_in word ≡ o → Reads (word ∷ [])
alone-reads word (Some g) e = one-spelled word [] g e reads-nothing
alone-reads word None e = λ gs h. let no : None ≡ Some gs = sym (none-alone word e) ∙ h in absurd cc

two-reads : (word next : List ℕ) (words : List (List ℕ)) (o p : Option Given) → given_in word ≡ o → given_by word next ≡ p → Reads (next ∷ words) → Reads words → Reads (word ∷ next ∷ words)
two-reads word next words (Some g) p e f behind_one behind_two = one-spelled word (next ∷ words) g e behind_one
two-reads word next words None (Some g) e f behind_one behind_two = two-spelled word next words g e f behind_two
two-reads word next words None None e f behind_one behind_two = λ gs h. let no : None ≡ Some gs = sym (none-given word next words e f) ∙ h in absurd cc

spelled-given : (words : List (List ℕ)) → Reads words
spelled-given [] = reads-nothing
spelled-given (word ∷ []) = alone-reads word (given_in word) refl
spelled-given (word ∷ next ∷ words) = two-reads word next words (given_in word) (given_by word next) refl refl (spelled-given (next ∷ words)) (spelled-given words)

pub spelled : (words : List (List ℕ)) (gs : List Given) → (all_given words ≡ Some gs) ↔ SpellsSettings words gs
spelled words gs = (spelled-given words gs, given-spelled)
