-- Settings behind settings.
use Rattle.salt_place.specs.declared.placement.PlaceKind.TheVariants.{Remainder}
use Rattle.salt_values.specs.declared.limits.TheConstants.{PARTITIONS_MOST}
use Rattle.salt_words.proofs.Givens.{none-alone, none-given, one-given, two-given}
use Rattle.salt_promise.specs.Words.{Given, all_given, count_said, early_given, ends_early, folder_called, given, given_by, given_in, goes_over_net, is_setting, kind_called, net_given, once, once_said, settings_given, settings_of, settings_said, values_of}
use Rattle.salt_promise.specs.declared.command.Setting.TheVariants.{Folder, Parts, Place}
use Rattle.salt_promise.specs.declared.command.Setting.{Setting}
use Rattle.std.proofs.Common.{ap, append-nil, arith, refl, subst, sym, ◌∙◌}
use Rattle.std.proofs.lemmas.Bool.{false≢true}
use Rattle.std.specs.Prelude.{Bool, IsSome, List, None, Option, Some, [], false, if◌then◌else◌, option_and_then, option_map, suc, true, ℕ, ◌+◌, ◌++◌, ◌∷◌, ◌≡◌}

-- ---- what is given behind what is given

both : Option (List Given) → Option (List Given) → Option (List Given)
both (Some xs) o = option_map (λ gs. xs ++ gs) o
both None o = None

both-nothing : (o : Option (List Given)) → o ≡ both (Some []) o
unfolding both
both-nothing (Some xs) = refl
both-nothing None = refl

both-first : (g : Given) (o p : Option (List Given)) → option_map (λ gs. g ∷ gs) (both o p) ≡ both (option_map (λ gs. g ∷ gs) o) p
unfolding both
both-first g (Some xs) (Some ys) = refl
both-first g (Some xs) None = refl
both-first g None p = refl

behind-first : (g : Given) (o : Option (List Given)) → IsSome (option_map (λ gs. g ∷ gs) o) → IsSome o
behind-first g (Some xs) h = h
behind-first g None h = h

Appends : (a b : List (List ℕ)) → Type 0
Appends a b = IsSome (all_given a) → all_given (a ++ b) ≡ both (all_given a) (all_given b)

appends-first : (front a b : List (List ℕ)) (g : Given) →
    ((words : List (List ℕ)) → all_given (front ++ words) ≡ option_map (λ gs. g ∷ gs) (all_given words)) →
    Appends a b → (IsSome (all_given (front ++ a)) → all_given (front ++ (a ++ b)) ≡ both (all_given (front ++ a)) (all_given b))
unfolding Appends
appends-first front a b g first behind some =
    first (a ++ b)
    ∙ ap (option_map (λ gs. g ∷ gs)) (behind (behind-first g (all_given a) (subst IsSome (first a) some)))
    ∙ both-first g (all_given a) (all_given b)
    ∙ ap (λ o. both o (all_given b)) (sym (first a))

appends-alone : (word : List ℕ) (b : List (List ℕ)) (o : Option Given) → given_in word ≡ o → Appends (word ∷ []) b
unfolding Appends all_given
appends-alone word b (Some g) e = appends-first (word ∷ []) [] b g (λ words. one-given word words g e) (λ some. both-nothing (all_given b))
appends-alone word b None e = λ some. absurd (false≢true (subst IsSome (none-alone word e) some))

appends-two : (word next : List ℕ) (a b : List (List ℕ)) (o p : Option Given) → given_in word ≡ o → given_by word next ≡ p → Appends (next ∷ a) b → Appends a b → Appends (word ∷ next ∷ a) b
unfolding Appends
appends-two word next a b (Some g) p e f behind_one behind_two =
    appends-first (word ∷ []) (next ∷ a) b g (λ words. one-given word words g e) behind_one
appends-two word next a b None (Some g) e f behind_one behind_two =
    appends-first (word ∷ next ∷ []) a b g (λ words. two-given word next words g e f) behind_two
appends-two word next a b None None e f behind_one behind_two = λ some. absurd (false≢true (subst IsSome (none-given word next a e f) some))

appends : (a b : List (List ℕ)) → Appends a b
unfolding Appends all_given
appends [] b = λ some. both-nothing (all_given b)
appends (word ∷ []) b = appends-alone word b (given_in word) refl
appends (word ∷ next ∷ a) b = appends-two word next a b (given_in word) (given_by word next) refl refl (appends (next ∷ a) b) (appends a b)

-- ---- in another order

values_of-first : (t : Bool) (value : List ℕ) (us vs ws : List (List ℕ)) → us ≡ vs ++ ws → (if t then value ∷ us else us) ≡ (if t then value ∷ vs else vs) ++ ws
values_of-first true value us vs ws e = ap (λ xs. value ∷ xs) e
values_of-first false value us vs ws e = e

values_of-append : (setting : Setting) (xs ys : List Given) → values_of setting (xs ++ ys) ≡ values_of setting xs ++ values_of setting ys
values_of-append setting [] ys = refl
values_of-append setting (ends_early ∷ xs) ys = values_of-append setting xs ys
values_of-append setting (goes_over_net ∷ xs) ys = values_of-append setting xs ys
values_of-append setting (given other value ∷ xs) ys =
    values_of-first (is_setting setting other) value (values_of setting (xs ++ ys)) (values_of setting xs) (values_of setting ys) (values_of-append setting xs ys)

-- what is said once is said in any order
once-swapped : {A : Type 0} (said : List (List ℕ) → Option A) → ((u v : List ℕ) (ws : List (List ℕ)) → said (u ∷ v ∷ ws) ≡ None) →
    (us vs : List (List ℕ)) → said (us ++ vs) ≡ said (vs ++ us)
once-swapped said twice [] vs = ap said (sym (append-nil vs))
once-swapped said twice (u ∷ us) [] = ap said (append-nil (u ∷ us))
once-swapped said twice (u ∷ []) (v ∷ []) = twice u v [] ∙ sym (twice v u [])
once-swapped said twice (u ∷ []) (v ∷ w ∷ vs) = twice u v (w ∷ vs) ∙ sym (twice v w (vs ++ u ∷ []))
once-swapped said twice (u ∷ w ∷ us) (v ∷ []) = twice u w (us ++ v ∷ []) ∙ sym (twice v u (w ∷ us))
once-swapped said twice (u ∷ w ∷ us) (v ∷ x ∷ vs) = twice u w (us ++ v ∷ x ∷ vs) ∙ sym (twice v x (vs ++ u ∷ w ∷ us))

said-swapped : {A : Type 0} (setting : Setting) (said : List (List ℕ) → Option A) → ((u v : List ℕ) (ws : List (List ℕ)) → said (u ∷ v ∷ ws) ≡ None) →
    (xs ys : List Given) → said (values_of setting (xs ++ ys)) ≡ said (values_of setting (ys ++ xs))
said-swapped setting said twice xs ys =
    ap said (values_of-append setting xs ys)
    ∙ once-swapped said twice (values_of setting xs) (values_of setting ys)
    ∙ ap said (sym (values_of-append setting ys xs))

early-append : (xs ys : List Given) → early_given (xs ++ ys) ≡ early_given xs + early_given ys
early-append [] ys = let same : early_given ys ≡ 0 + early_given ys = omega arith in same
early-append (ends_early ∷ xs) ys =
    let behind = early-append xs ys in
    let same : suc (early_given (xs ++ ys)) ≡ suc (early_given xs) + early_given ys = omega (arith, behind) in
    same
early-append (goes_over_net ∷ xs) ys = early-append xs ys
early-append (given setting value ∷ xs) ys = early-append xs ys

early-swapped : (xs ys : List Given) → early_given (xs ++ ys) ≡ early_given (ys ++ xs)
early-swapped xs ys =
    let here = early-append xs ys in
    let there = early-append ys xs in
    omega (arith, here, there)

net-append : (xs ys : List Given) → net_given (xs ++ ys) ≡ net_given xs + net_given ys
net-append [] ys = let same : net_given ys ≡ 0 + net_given ys = omega arith in same
net-append (ends_early ∷ xs) ys = net-append xs ys
net-append (goes_over_net ∷ xs) ys =
    let behind = net-append xs ys in
    let same : suc (net_given (xs ++ ys)) ≡ suc (net_given xs) + net_given ys = omega (arith, behind) in
    same
net-append (given setting value ∷ xs) ys = net-append xs ys

net-swapped : (xs ys : List Given) → net_given (xs ++ ys) ≡ net_given (ys ++ xs)
net-swapped xs ys =
    let here = net-append xs ys in
    let there = net-append ys xs in
    omega (arith, here, there)

given-swapped : (xs ys : List Given) → settings_given (xs ++ ys) ≡ settings_given (ys ++ xs)
given-swapped xs ys =
    let one = xs ++ ys in
    let other = ys ++ xs in
    ap (λ parts. settings_of parts (once None folder_called (values_of Folder one)) (once Remainder kind_called (values_of Place one)) (once_said (early_given one)) (once_said (net_given one))) (said-swapped Parts (once 2 (count_said PARTITIONS_MOST)) (λ u v ws. refl) xs ys)
    ∙ ap (λ folder. settings_of (once 2 (count_said PARTITIONS_MOST) (values_of Parts other)) folder (once Remainder kind_called (values_of Place one)) (once_said (early_given one)) (once_said (net_given one))) (said-swapped Folder (once None folder_called) (λ u v ws. refl) xs ys)
    ∙ ap (λ kind. settings_of (once 2 (count_said PARTITIONS_MOST) (values_of Parts other)) (once None folder_called (values_of Folder other)) kind (once_said (early_given one)) (once_said (net_given one))) (said-swapped Place (once Remainder kind_called) (λ u v ws. refl) xs ys)
    ∙ ap (λ times. settings_of (once 2 (count_said PARTITIONS_MOST) (values_of Parts other)) (once None folder_called (values_of Folder other)) (once Remainder kind_called (values_of Place other)) (once_said times) (once_said (net_given one))) (early-swapped xs ys)
    ∙ ap (λ times. settings_of (once 2 (count_said PARTITIONS_MOST) (values_of Parts other)) (once None folder_called (values_of Folder other)) (once Remainder kind_called (values_of Place other)) (once_said (early_given other)) (once_said times)) (net-swapped xs ys)

both-swapped : (o p : Option (List Given)) → IsSome o → IsSome p → option_and_then settings_given (both o p) ≡ option_and_then settings_given (both p o)
unfolding both
both-swapped (Some xs) (Some ys) h k = given-swapped xs ys
both-swapped (Some xs) None h k = absurd (false≢true k)
both-swapped None p h k = absurd (false≢true h)

pub settings-swapped : (a b : List (List ℕ)) → IsSome (all_given a) → IsSome (all_given b) → settings_said (a ++ b) ≡ settings_said (b ++ a)
unfolding Appends
settings-swapped a b some_a some_b =
    ap (option_and_then settings_given) (appends a b some_a)
    ∙ both-swapped (all_given a) (all_given b) some_a some_b
    ∙ ap (option_and_then settings_given) (sym (appends b a some_b))
