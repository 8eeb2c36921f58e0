-- A loop that writes a row to lent cells, from left to right.
use Rattle.std.proofs.Common.{◌≡◌, ℕ, ◌+◌, ◌-◌, ◌<◌, ◌≤◌, List, [], ◌∷◌, ◌++◌, length, get_or, take, drop, set, sym, refl, ap, ◌∙◌, subst, ap₂, append-nil, arith, length-append, length-drop, take_all, drop-drop, drop-set-lt}
use lib.Seq.{take-append-add, drop-append-add}
use borrow.Rule.Slice.PartMut.{put_mid}
use Rattle.std.proofs.lemmas.List.{take_more, take_more_set, take_rest, drop_all}
use Rattle.rules.specs.Rows.{Puts}

-- of lent cells, which were o, the first i are those of x, and the others as before
pub record Filled (x o o' : List ℕ) (i : ℕ) : Type 0 where
  pub front : take i o' ≡ take i x
  pub back : drop i o' ≡ drop i o

pub filled_none : (x o : List ℕ) → Filled x o o 0
filled_none x o = record { front = refl; back = refl }

pub filled_more : {x o o' : List ℕ} {i : ℕ} (v : ℕ) → Filled x o o' i → i < length x → i < length o' → v ≡ get_or x i 0 → Filled x o (set o' i v) (i + 1)
filled_more {x} {o} {o'} {i} v f h h' is =
    record {
      front = take_more_set o' i v h' ∙ ap (λ l. l ++ v ∷ []) f.front ∙ ap (λ c. take i x ++ c ∷ []) is ∙ sym (take_more x i 0 h);
      back = drop-set-lt (i + 1) o' i v (omega arith) ∙ sym (drop-drop 1 i o') ∙ ap (drop 1) f.back ∙ drop-drop 1 i o;
    }

pub puts_from_filled : {x o o' : List ℕ} {i : ℕ} → Filled x o o' i → i ≡ length x → Puts o o' x
puts_from_filled {x} {o} {o'} f is =
    (subst (λ n. take n o' ≡ take n x) is f.front ∙ take_all (length x) x (omega arith), subst (λ n. drop n o' ≡ drop n o) is f.back)

pub all_from_filled : {x o o' : List ℕ} {i : ℕ} → Filled x o o' i → i ≡ length x → length o' ≡ length x → o' ≡ x
all_from_filled {x} {o} {o'} {i} f is long = sym (take_all i o' (omega arith)) ∙ f.front ∙ take_all i x (omega arith)

-- a row behind another, which was written before it
pub puts_behind : (o o' part x y : List ℕ) (n : ℕ) → n ≡ length x → n ≤ length o' → length part ≡ length o' - n → Puts o o' x → Puts (take (length o' - n) (drop n o')) part y → Puts o (put_mid n (length o' - n) o' part) (x ++ y)
puts_behind o o' part x y n is inside long (front, rest) (front-y, rest-y) = (
  ap₂ take (length-append x y) now ∙ take-append-add x part (length y) ∙ ap (λ z. x ++ z) front-y,
  ap₂ drop (length-append x y) now
      ∙ drop-append-add x part (length y)
      ∙ rest-y
      ∙ ap (drop (length y)) (take_rest o' n ∙ ap (λ i. drop i o') is ∙ rest)
      ∙ drop-drop (length y) (length x) o
      ∙ ap (λ i. drop i o) (sym (length-append x y)),
)
  where
    now : put_mid n (length o' - n) o' part ≡ x ++ part
    now =
        ap₂ (λ z v. z ++ (part ++ v)) (ap (λ i. take i o') is ∙ front) (drop_all (length o' - n) (drop n o') (omega (arith, length-drop n o')))
        ∙ ap (λ z. x ++ z) (append-nil part)

-- a row in two pieces, the second of which was written to the cells behind the first
pub puts_split : (o p x rest : List ℕ) → Puts (drop (length p) o) rest x → Puts o (p ++ rest) (p ++ x)
puts_split o p x rest (front, back) = (
  ap (λ n. take n (p ++ rest)) (length-append p x) ∙ take-append-add p rest (length x) ∙ ap (λ z. p ++ z) front,
  ap (λ n. drop n (p ++ rest)) (length-append p x)
      ∙ drop-append-add p rest (length x)
      ∙ back
      ∙ drop-drop (length x) (length p) o
      ∙ ap (λ n. drop n o) (sym (length-append p x)),
)
