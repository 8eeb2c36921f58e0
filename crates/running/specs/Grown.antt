-- What is added in two steps was added, to lines that are written and to a count of rows.
use Rattle.std.proofs.Common.{◌≡◌, ℕ, ◌+◌, ◌-◌, ◌^◌, min, List, [], ◌∷◌, ◌++◌, sym, subst, refl, ap, ◌∙◌, append_assoc, append-nil, Option, None, Some}
use Rattle.std.specs.Io.KnownBytes.{Appends}
use Rattle.running.specs.Lines.{lines_of, counted}
use Rattle.text.specs.Letters.{text_of}
use Rattle.text.specs.declared.print.Alphabet.{Alphabet}

pub appends_nothing : (x : Option (List ℕ)) → Appends x x []
appends_nothing None = tt
appends_nothing (Some xs) = sym (append-nil xs)

appends_behind : (x y z : Option (List ℕ)) (bs cs : List ℕ) → Appends x y bs → Appends y z cs → Appends x z (bs ++ cs)
appends_behind None y z bs cs p q = tt
appends_behind (Some xs) None z bs cs p q = absurd p
appends_behind (Some xs) (Some ys) None bs cs p q = absurd q
appends_behind (Some xs) (Some ys) (Some zs) bs cs p q = q ∙ ap (λ w. w ++ cs) p ∙ append_assoc xs bs cs

lines_of-append : (a : Alphabet) (us ws : List (List ℕ)) → lines_of a (us ++ ws) ≡ lines_of a us ++ lines_of a ws
lines_of-append a [] ws = refl
lines_of-append a (u ∷ us) ws = ap (λ bs. (text_of a u ++ 10 ∷ []) ++ bs) (lines_of-append a us ws) ∙ sym (append_assoc (text_of a u ++ 10 ∷ []) _ _)

pub printed_behind : (a b c : Alphabet) (x y z : Option (List ℕ)) (us ws : List (List ℕ)) → b ≡ a → Appends x y (lines_of a us) → c ≡ b → Appends y z (lines_of b ws) → (c ≡ a) × Appends x z (lines_of a (us ++ ws))
printed_behind a b c x y z us ws same added same' added' =
    (same' ∙ same, subst (Appends x z) (sym (lines_of-append a us ws)) (appends_behind x y z _ _ added (subst (λ d. Appends y z (lines_of d ws)) same added')))

counted-append : (us : List (List ℕ)) (n : ℕ) (ws : List (List ℕ)) → counted n (us ++ ws) ≡ counted (counted n us) ws
counted-append [] n ws = refl
counted-append (u ∷ us) n ws = counted-append us (min (n + 1) (2 ^ 64 - 1)) ws

pub counted_behind : (n m k : ℕ) (us ws : List (List ℕ)) → m ≡ counted n us → k ≡ counted m ws → k ≡ counted n (us ++ ws)
counted_behind n m k us ws is is' = is' ∙ ap (λ x. counted x ws) is ∙ sym (counted-append us n ws)
