use Rattle.std.proofs.Common.{◌≡◌, ◌∙◌, ap, subst, sym, map, string_bytes, ℕ, List, [], ◌∷◌, ◌++◌, append_assoc, append-nil}
use Rattle.std.proofs.lemmas.List.{map-append}
use Rattle.reading.specs.Split.{FirstWord, WordsOf}
use Rattle.reading.proofs.words.split_words.Goals as goal

-- with the first word of what is left, one more word of the line is found
onward : (line left rest w : List ℕ) (found more : List (List ℕ)) → ((ws : List (List ℕ)) → WordsOf left ws → WordsOf line (found ++ ws)) → FirstWord left w rest → more ≡ found ++ w ∷ [] → (ws : List (List ℕ)) → WordsOf rest ws → WordsOf line (more ++ ws)
onward line left rest w found more so_far first is ws behind =
    subst (WordsOf line) (sym (ap (λ l. l ++ ws) is ∙ append_assoc found (w ∷ []) ws)) (so_far (w ∷ ws) (rest, first, behind))

-- a word that is put behind others stands behind them in bytes
one_more : {X : Type 0} (f : X → List ℕ) (xs ys : List X) (x : X) (w : List ℕ) → ys ≡ xs ++ x ∷ [] → f x ≡ w → map f ys ≡ map f xs ++ w ∷ []
one_more f xs ys x w is same = ap (map f) is ∙ map-append f xs (x ∷ []) ∙ ap (λ b. map f xs ++ b ∷ []) same

pub loop-word-preserved : goal.loop-word-preserved
loop-word-preserved c =
    let (gap, is, some, blank, solid, (more, apart)) = c.in-Some.ensures.steps in
    onward _ _ _ c.in-Some.word.now (map string_bytes c.loop-word.words.items) _ c.loop-word.invariant (record { gap = gap; is = is; blank = blank; some = some; solid = solid; more = more; apart = apart }) (one_more string_bytes c.loop-word.words.items _ c.in_ok-from_str.field-0 _ c.in_ok-push.ensures.items c.in_ok-from_str.ensures.ok)

pub returns : goal.returns
returns c = subst (WordsOf c.args.line.now) (append-nil (map string_bytes c.loop-word.words.items)) (c.loop-word.invariant [] c.in-None.ensures.steps.1)
