use Rattle.std.proofs.Common.{[], map, ap, refl, ℕ, ◌≡◌, ◌∙◌, ◌∷◌}
use Rattle.salt_ast.specs.Bytes.{lower}
use Rattle.salt_ast.specs.TokenSpelling.{among, keyword_of}
use Rattle.salt_ast.specs.declared.keyword.Keyword.TheVariants as word
use Rattle.salt_ast.proofs.SpellingLaws.{of_letter}
use Rattle.salt_ast.proofs.keyword.Keyword.beginning_with.Goals as goal

pub returns-in-97 : goal.returns-in-97
returns-in-97 c =
    let same : among (word.And ∷ word.Acid ∷ word.All ∷ []) (map lower c.args.word.now) ≡ keyword_of c.args.word.now = of_letter (word.And ∷ word.Acid ∷ word.All ∷ []) 97 c.args.word.now c.requires.0 (c.requires.1 ∙ ap (λ (x : ℕ). x ∷ c.requires.0) c.in-97.is) (λ others. refl) in
    cc

pub returns-in-98 : goal.returns-in-98
returns-in-98 c =
    let same : among (word.Between ∷ word.Base ∷ word.Begin ∷ word.Bases ∷ []) (map lower c.args.word.now) ≡ keyword_of c.args.word.now = of_letter (word.Between ∷ word.Base ∷ word.Begin ∷ word.Bases ∷ []) 98 c.args.word.now c.requires.0 (c.requires.1 ∙ ap (λ (x : ℕ). x ∷ c.requires.0) c.in-98.is) (λ others. refl) in
    cc

pub returns-in-99 : goal.returns-in-99
returns-in-99 c =
    let same : among (word.Create ∷ word.Check ∷ word.Count ∷ word.Commit ∷ word.Call ∷ word.Crash ∷ []) (map lower c.args.word.now) ≡ keyword_of c.args.word.now = of_letter (word.Create ∷ word.Check ∷ word.Count ∷ word.Commit ∷ word.Call ∷ word.Crash ∷ []) 99 c.args.word.now c.requires.0 (c.requires.1 ∙ ap (λ (x : ℕ). x ∷ c.requires.0) c.in-99.is) (λ others. refl) in
    cc

pub returns-in-100 : goal.returns-in-100
returns-in-100 c =
    let same : among (word.Delete ∷ []) (map lower c.args.word.now) ≡ keyword_of c.args.word.now = of_letter (word.Delete ∷ []) 100 c.args.word.now c.requires.0 (c.requires.1 ∙ ap (λ (x : ℕ). x ∷ c.requires.0) c.in-100.is) (λ others. refl) in
    cc

pub returns-in-101 : goal.returns-in-101
returns-in-101 c =
    let same : among (word.Ensure ∷ word.End ∷ []) (map lower c.args.word.now) ≡ keyword_of c.args.word.now = of_letter (word.Ensure ∷ word.End ∷ []) 101 c.args.word.now c.requires.0 (c.requires.1 ∙ ap (λ (x : ℕ). x ∷ c.requires.0) c.in-101.is) (λ others. refl) in
    cc

pub returns-in-102 : goal.returns-in-102
returns-in-102 c =
    let same : among (word.From ∷ word.Failure ∷ []) (map lower c.args.word.now) ≡ keyword_of c.args.word.now = of_letter (word.From ∷ word.Failure ∷ []) 102 c.args.word.now c.requires.0 (c.requires.1 ∙ ap (λ (x : ℕ). x ∷ c.requires.0) c.in-102.is) (λ others. refl) in
    cc

pub returns-in-103 : goal.returns-in-103
returns-in-103 c =
    let same : among (word.Go ∷ []) (map lower c.args.word.now) ≡ keyword_of c.args.word.now = of_letter (word.Go ∷ []) 103 c.args.word.now c.requires.0 (c.requires.1 ∙ ap (λ (x : ℕ). x ∷ c.requires.0) c.in-103.is) (λ others. refl) in
    cc

pub returns-in-104 : goal.returns-in-104
returns-in-104 c = of_letter [] 104 c.args.word.now c.requires.0 (c.requires.1 ∙ ap (λ (x : ℕ). x ∷ c.requires.0) c.in-104.is) (λ others. refl)

pub returns-in-105 : goal.returns-in-105
returns-in-105 c =
    let same : among (word.Int ∷ word.Insert ∷ word.Into ∷ word.Is ∷ []) (map lower c.args.word.now) ≡ keyword_of c.args.word.now = of_letter (word.Int ∷ word.Insert ∷ word.Into ∷ word.Is ∷ []) 105 c.args.word.now c.requires.0 (c.requires.1 ∙ ap (λ (x : ℕ). x ∷ c.requires.0) c.in-105.is) (λ others. refl) in
    cc

pub returns-in-106 : goal.returns-in-106
returns-in-106 c = of_letter [] 106 c.args.word.now c.requires.0 (c.requires.1 ∙ ap (λ (x : ℕ). x ∷ c.requires.0) c.in-106.is) (λ others. refl)

pub returns-in-107 : goal.returns-in-107
returns-in-107 c =
    let same : among (word.Key ∷ []) (map lower c.args.word.now) ≡ keyword_of c.args.word.now = of_letter (word.Key ∷ []) 107 c.args.word.now c.requires.0 (c.requires.1 ∙ ap (λ (x : ℕ). x ∷ c.requires.0) c.in-107.is) (λ others. refl) in
    cc

pub returns-in-108 : goal.returns-in-108
returns-in-108 c =
    let same : among (word.Locks ∷ []) (map lower c.args.word.now) ≡ keyword_of c.args.word.now = of_letter (word.Locks ∷ []) 108 c.args.word.now c.requires.0 (c.requires.1 ∙ ap (λ (x : ℕ). x ∷ c.requires.0) c.in-108.is) (λ others. refl) in
    cc

pub returns-in-109 : goal.returns-in-109
returns-in-109 c =
    let same : among (word.Min ∷ word.Max ∷ []) (map lower c.args.word.now) ≡ keyword_of c.args.word.now = of_letter (word.Min ∷ word.Max ∷ []) 109 c.args.word.now c.requires.0 (c.requires.1 ∙ ap (λ (x : ℕ). x ∷ c.requires.0) c.in-109.is) (λ others. refl) in
    cc

pub returns-in-110 : goal.returns-in-110
returns-in-110 c =
    let same : among (word.Not ∷ word.Null ∷ []) (map lower c.args.word.now) ≡ keyword_of c.args.word.now = of_letter (word.Not ∷ word.Null ∷ []) 110 c.args.word.now c.requires.0 (c.requires.1 ∙ ap (λ (x : ℕ). x ∷ c.requires.0) c.in-110.is) (λ others. refl) in
    cc

pub returns-in-111 : goal.returns-in-111
returns-in-111 c =
    let same : among (word.Or ∷ word.On ∷ []) (map lower c.args.word.now) ≡ keyword_of c.args.word.now = of_letter (word.Or ∷ word.On ∷ []) 111 c.args.word.now c.requires.0 (c.requires.1 ∙ ap (λ (x : ℕ). x ∷ c.requires.0) c.in-111.is) (λ others. refl) in
    cc

pub returns-in-112 : goal.returns-in-112
returns-in-112 c =
    let same : among (word.Program ∷ word.Part ∷ []) (map lower c.args.word.now) ≡ keyword_of c.args.word.now = of_letter (word.Program ∷ word.Part ∷ []) 112 c.args.word.now c.requires.0 (c.requires.1 ∙ ap (λ (x : ℕ). x ∷ c.requires.0) c.in-112.is) (λ others. refl) in
    cc

pub returns-in-113 : goal.returns-in-113
returns-in-113 c = of_letter [] 113 c.args.word.now c.requires.0 (c.requires.1 ∙ ap (λ (x : ℕ). x ∷ c.requires.0) c.in-113.is) (λ others. refl)

pub returns-in-114 : goal.returns-in-114
returns-in-114 c =
    let same : among (word.Rollback ∷ word.Retry ∷ []) (map lower c.args.word.now) ≡ keyword_of c.args.word.now = of_letter (word.Rollback ∷ word.Retry ∷ []) 114 c.args.word.now c.requires.0 (c.requires.1 ∙ ap (λ (x : ℕ). x ∷ c.requires.0) c.in-114.is) (λ others. refl) in
    cc

pub returns-in-115 : goal.returns-in-115
returns-in-115 c =
    let same : among (word.Select ∷ word.Set ∷ word.Sum ∷ word.Step ∷ word.Show ∷ []) (map lower c.args.word.now) ≡ keyword_of c.args.word.now = of_letter (word.Select ∷ word.Set ∷ word.Sum ∷ word.Step ∷ word.Show ∷ []) 115 c.args.word.now c.requires.0 (c.requires.1 ∙ ap (λ (x : ℕ). x ∷ c.requires.0) c.in-115.is) (λ others. refl) in
    cc

pub returns-in-116 : goal.returns-in-116
returns-in-116 c =
    let same : among (word.Table ∷ word.Text ∷ word.Then ∷ []) (map lower c.args.word.now) ≡ keyword_of c.args.word.now = of_letter (word.Table ∷ word.Text ∷ word.Then ∷ []) 116 c.args.word.now c.requires.0 (c.requires.1 ∙ ap (λ (x : ℕ). x ∷ c.requires.0) c.in-116.is) (λ others. refl) in
    cc

pub returns-in-117 : goal.returns-in-117
returns-in-117 c =
    let same : among (word.Update ∷ []) (map lower c.args.word.now) ≡ keyword_of c.args.word.now = of_letter (word.Update ∷ []) 117 c.args.word.now c.requires.0 (c.requires.1 ∙ ap (λ (x : ℕ). x ∷ c.requires.0) c.in-117.is) (λ others. refl) in
    cc

pub returns-in-118 : goal.returns-in-118
returns-in-118 c =
    let same : among (word.Values ∷ word.Var ∷ []) (map lower c.args.word.now) ≡ keyword_of c.args.word.now = of_letter (word.Values ∷ word.Var ∷ []) 118 c.args.word.now c.requires.0 (c.requires.1 ∙ ap (λ (x : ℕ). x ∷ c.requires.0) c.in-118.is) (λ others. refl) in
    cc

pub returns-in-119 : goal.returns-in-119
returns-in-119 c =
    let same : among (word.Where ∷ []) (map lower c.args.word.now) ≡ keyword_of c.args.word.now = of_letter (word.Where ∷ []) 119 c.args.word.now c.requires.0 (c.requires.1 ∙ ap (λ (x : ℕ). x ∷ c.requires.0) c.in-119.is) (λ others. refl) in
    cc

pub returns-in-120 : goal.returns-in-120
returns-in-120 c = of_letter [] 120 c.args.word.now c.requires.0 (c.requires.1 ∙ ap (λ (x : ℕ). x ∷ c.requires.0) c.in-120.is) (λ others. refl)

pub returns-in-121 : goal.returns-in-121
returns-in-121 c = of_letter [] 121 c.args.word.now c.requires.0 (c.requires.1 ∙ ap (λ (x : ℕ). x ∷ c.requires.0) c.in-121.is) (λ others. refl)

pub returns-in-122 : goal.returns-in-122
returns-in-122 c = of_letter [] 122 c.args.word.now c.requires.0 (c.requires.1 ∙ ap (λ (x : ℕ). x ∷ c.requires.0) c.in-122.is) (λ others. refl)

pub returns-in-95 : goal.returns-in-95
returns-in-95 c = of_letter [] 95 c.args.word.now c.requires.0 (c.requires.1 ∙ ap (λ (x : ℕ). x ∷ c.requires.0) c.in-95.is) (λ others. refl)
