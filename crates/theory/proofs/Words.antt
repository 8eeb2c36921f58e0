-- Lists of words: pieces side by side out of lists of pieces, and all pieces of one length.
use Rattle.std.proofs.Common.{◌≡◌, ℕ, zero, suc, ◌+◌, ◌-◌, ◌*◌, ◌^◌, ◌<◌, List, [], ◌∷◌, ◌++◌, map, length, take, sym, refl, ap, ◌∙◌, subst, mul_assoc, suc-mul, mul-one, arith, length-append, take_at}
use native.Mathlib.Nat.{pow-zero, pow-succ'}
use Rattle.std.specs.List.{flat_map}
use Rattle.std.proofs.lemmas.List.{length-map, append_cancel_left}
use Rattle.std.proofs.ByRecursion.{All-append}
use Rattle.rules.specs.Rules.{Rule, IsRule, Cells, next}
use Rattle.theory.specs.Says.{Among, here, Once}
use Rattle.rules.proofs.Next.{length-next, piece_next}
use Rattle.theory.proofs.Members.{all_one, once_one, among_map, among_from_map, once_map, among_joined, among_from_joined, once_joined}
use Rattle.theory.proofs.Pigeon.{singles, length_singles, among_singles, cell_from_singles, once_singles}

-- a piece of bs, then one of ws
abbrev pub pairs : List (List ℕ) → List (List ℕ) → List (List ℕ)
pairs bs ws = flat_map (λ b. map (λ w. b ++ w) ws) bs

pub length_pairs : (bs ws : List (List ℕ)) → length (pairs bs ws) ≡ length bs * length ws
length_pairs [] ws = omega arith
length_pairs (b ∷ bs) ws =
    length-append (map (λ w. b ++ w) ws) (pairs bs ws) ∙ omega (arith, length-map ws (λ w. b ++ w), length_pairs bs ws, suc-mul (length bs) (length ws))

pub among_pairs : {b w : List ℕ} {bs ws : List (List ℕ)} → Among b bs → Among w ws → Among (b ++ w) (pairs bs ws)
among_pairs {b} {w} {bs} {ws} i j = among_joined (λ c. map (λ x. c ++ x) ws) i (among_map (λ x. b ++ x) j)

pub parts_from_pairs : (bs ws : List (List ℕ)) {u : List ℕ} → Among u (pairs bs ws) → (b : List ℕ) × (w : List ℕ) × Among b bs × Among w ws × (u ≡ b ++ w)
parts_from_pairs bs ws i =
    let (b, j, k) = among_from_joined (λ c. map (λ x. c ++ x) ws) bs i in
    let (w, l, e) = among_from_map (λ x. b ++ x) ws k in
    (b, w, j, l, e)

-- all of bs have m cells
abbrev pub AllLong : ℕ → List (List ℕ) → Type 0
AllLong m bs = (b : List ℕ) → Among b bs → length b ≡ m

pub once_pairs : (m : ℕ) {bs ws : List (List ℕ)} → AllLong m bs → Once bs → Once ws → Once (pairs bs ws)
once_pairs m {bs} {ws} long once-bs once-ws = once_joined (λ b. map (λ w. b ++ w) ws) once-bs (λ b. once_map (λ w. b ++ w) (append_cancel_left b) once-ws) first
  where
    first : (b c u : List ℕ) → Among b bs → Among c bs → Among u (map (λ w. b ++ w) ws) → Among u (map (λ w. c ++ w) ws) → b ≡ c
    first b c u i j k l =
        let (w, _, e) = among_from_map (λ x. b ++ x) ws k in
        let (x, _, f) = among_from_map (λ x. c ++ x) ws l in
        sym (take_at b w m (long b i)) ∙ ap (take m) (sym e ∙ f) ∙ take_at c x m (long c j)

-- n pieces of bs, then one of es
abbrev pub chains : ℕ → List (List ℕ) → List (List ℕ) → List (List ℕ)
chains zero bs es = es
chains (suc n) bs es = pairs bs (chains n bs es)

pub length_chains : (n : ℕ) (bs es : List (List ℕ)) → length (chains n bs es) ≡ length bs ^ n * length es
length_chains zero bs es = rw pow-zero (omega arith)
length_chains (suc n) bs es =
    length_pairs bs (chains n bs es) ∙ ap (λ l. length bs * l) (length_chains n bs es) ∙ sym (ap (λ p. p * length es) (pow-succ' (length bs) n) ∙ mul_assoc (length bs) (length bs ^ n) (length es))

pub once_chains : (m n : ℕ) {bs es : List (List ℕ)} → AllLong m bs → Once bs → Once es → Once (chains n bs es)
once_chains m zero long once-bs once-es = once-es
once_chains m (suc n) long once-bs once-es = once_pairs m long once-bs (once_chains m n long once-bs once-es)

-- what holds of pieces side by side where it holds of each, holds of a chain
pub all_chains : (P : List ℕ → Type 0) → ((u w : List ℕ) → P u → P w → P (u ++ w)) → (n : ℕ) (bs es : List (List ℕ)) → ((b : List ℕ) → Among b bs → P b) → ((e : List ℕ) → Among e es → P e) → (u : List ℕ) → Among u (chains n bs es) → P u
all_chains P join zero bs es all-bs all-es u i = all-es u i
all_chains P join (suc n) bs es all-bs all-es u i =
    let (b, w, j, k, e) = parts_from_pairs bs (chains n bs es) i in
    subst P (sym e) (join b w (all-bs b j) (all_chains P join n bs es all-bs all-es w k))

pub long_chains : (m l n : ℕ) (bs es : List (List ℕ)) → AllLong m bs → AllLong l es → AllLong (n * m + l) (chains n bs es)
long_chains m l zero bs es long-bs long-es u i = omega (arith, long-es u i)
long_chains m l (suc n) bs es long-bs long-es u i =
    let (b, w, j, k, e) = parts_from_pairs bs (chains n bs es) i in
    ap length e ∙ length-append b w ∙ omega (arith, suc-mul n m, long-bs b j, long_chains m l n bs es long-bs long-es w k)

-- all pieces of n cells of k kinds
abbrev pub words : ℕ → ℕ → List (List ℕ)
words k n = chains n (singles k) ([] ∷ [])

pub length_words : (k n : ℕ) → length (words k n) ≡ k ^ n
length_words k n = length_chains n (singles k) ([] ∷ []) ∙ mul-one (length (singles k) ^ n) ∙ ap (λ s. s ^ n) (length_singles k)

long_singles : (k : ℕ) → AllLong 1 (singles k)
long_singles k u i = let (c, e, l) = cell_from_singles k i in ap length e

pub once_words : (k n : ℕ) → Once (words k n)
once_words k n = once_chains 1 n (long_singles k) (once_singles k) once_one

pub among_words : (k n : ℕ) (u : List ℕ) → Cells k u → length u ≡ n → Among u (words k n)
among_words k n u cells e = subst (λ l. Among u (words k l)) e (as_long u cells)
  where
    as_long : (w : List ℕ) → Cells k w → Among w (words k (length w))
    as_long [] h = here
    as_long (c ∷ w) (l, h) = among_pairs (among_singles k c l) (as_long w h)

pub cells_from_words : (k n : ℕ) (u : List ℕ) → Among u (words k n) → Cells k u
cells_from_words k n = all_chains (Cells k) (All-append (λ c. c < k)) n (singles k) ([] ∷ []) one (all_one (Cells k) tt)
  where
    one : (b : List ℕ) → Among b (singles k) → Cells k b
    one b j = let (c, e, l) = cell_from_singles k j in subst (Cells k) (sym e) (l, tt)

pub long_words : (k n : ℕ) → AllLong n (words k n)
long_words k n u i = long_chains 1 0 n (singles k) ([] ∷ []) (long_singles k) (all_one (λ e. length e ≡ 0) refl) u i ∙ omega arith

-- the next row of anything that has n windows
pub among_words_next : (r : Rule) → IsRule r → (n : ℕ) (u : List ℕ) → length u ≡ n + (r.wide - 1) → Among (next r u) (words r.kinds n)
among_words_next r rule n u long =
    among_words r.kinds n (next r u) (piece_next r (omega arith) rule.formed.cells u) (omega (arith, length-next r u))
