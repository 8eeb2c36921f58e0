-- Four words, told by their places.
use Rattle.std.proofs.Common.{◌≡◌, subst, sym, ℕ, ◌<◌, ◌≤◌, List, [], ◌∷◌, length, get_or, map, arith, codes, Result, Ok, Err, MatchResult}
use Rattle.faults.specs.declared.no_words.NoWords.{NoWords}
use Rattle.faults.specs.declared.no_words.NoWords.TheVariants.{Few, Extra, NoNumber, NoElementary, NoNumeral, LargeNumber, Cells, Table, Memory}
use Rattle.rules.specs.Rules.{Rule}
use Rattle.reading.specs.Words.{InWords, NotMeant, Numbered}

-- where nothing has a property, nothing has a narrower one
narrower : (A B : Rule → Type 0) (e : NoWords) → ((r : Rule) → B r → A r) → NotMeant A e → NotMeant B e
narrower A B (Few s) down none = λ r b. none r (down r b)
narrower A B (Extra s) down none = λ r b. none r (down r b)
narrower A B (NoNumber n s) down none = λ r b. none r (down r b)
narrower A B (NoElementary s) down none = λ r b. none r (down r b)
narrower A B (NoNumeral s) down none = λ r b. none r (down r b)
narrower A B (LargeNumber k m) down none = λ r b. none r (down r b)
narrower A B (Cells c) down none = λ r b. none r (down r b)
narrower A B (Table t) down none = λ r b. none r (down r b)
narrower A B Memory down none = none

told : {T : Type 0} (res : Result T NoWords) (P Q : T → Type 0) (A B : Rule → Type 0) → ((t : T) → P t → Q t) → ((r : Rule) → B r → A r) → MatchResult res P (NotMeant A) → MatchResult res Q (NotMeant B)
told (Ok t) P Q A B up down said = up t said
told (Err e) P Q A B up down said = narrower A B e down said

pub four : {W : Type 0} (f : W → List ℕ) (ws : List W) (a b c d : W) → 4 ≤ length ws → length ws < 5 → a ≡ get_or ws 0 a → b ≡ get_or ws 1 b → c ≡ get_or ws 2 c → d ≡ get_or ws 3 d → map f ws ≡ f a ∷ f b ∷ f c ∷ f d ∷ []
four f [] a b c d low high first second third fourth = absurd (omega arith)
four f (x ∷ []) a b c d low high first second third fourth = absurd (omega arith)
four f (x ∷ y ∷ []) a b c d low high first second third fourth = absurd (omega arith)
four f (x ∷ y ∷ z ∷ []) a b c d low high first second third fourth = absurd (omega arith)
four f (x ∷ y ∷ z ∷ v ∷ []) a b c d low high first second third fourth =
    let is_a : x ≡ a = sym first in
    let is_b : y ≡ b = sym second in
    let is_c : z ≡ c = sym third in
    let is_d : v ≡ d = sym fourth in
    cc
four f (x ∷ y ∷ z ∷ v ∷ u ∷ ws) a b c d low high first second third fourth = absurd (omega arith)

-- of four words that are these, what is said of the last three is said of all
pub four_told : {T : Type 0} (rule : T → Rule) (S : Rule → Type 0) (res : Result T NoWords) (ws : List (List ℕ)) (a b c d : List ℕ) → ws ≡ a ∷ b ∷ c ∷ d ∷ [] → a ≡ codes "wolfram" → MatchResult res (λ t. Numbered b c d (rule t)) (NotMeant (λ r. Numbered b c d r × S r)) → MatchResult res (λ t. InWords ws (rule t)) (NotMeant (λ r. InWords ws r × S r))
four_told rule S res ws a b c d same is said =
    subst (λ l. MatchResult res (λ t. InWords l (rule t)) (NotMeant (λ r. InWords l r × S r))) (sym same) (told res _ _ (λ r. Numbered b c d r × S r) _ (λ t h. (is, h)) (λ r h. (h.0.1, h.1)) said)
