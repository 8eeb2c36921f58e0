-- Cells that are shifted into one number, where the kinds are all numbers of some bits.
use Rattle.std.proofs.Common.{◌≡◌, ℕ, zero, suc, ◌+◌, ◌-◌, ◌*◌, ◌%◌, ◌^◌, ◌<◌, ◌≤◌, List, [], ◌∷◌, ◌++◌, length, get_or, take, drop, set, sym, ap, ◌∙◌, subst, ap₂, ⊎_elim, append_assoc, append-nil, mod-lt, mod-eq_of_lt, pow-suc, mul-zero, mul-suc, arith, length-append, length-drop, get_or-drop, take_all, drop-drop, take_at, pow_pos, pow_mono, pow-add}
use native.Mathlib.Nat.{pow-zero, mul-mod_left}
use lib.Bits.{bit_and, bit_or, and_mask, or_shifted}
use lib.Pow.{shl-shr, high, low, mod-pow-add, mod-mod-pow}
use lib.Seq.{drop-append-le}
use borrow.Rule.Slice.PartMut.{put_mid}
use Rattle.std.proofs.ByRecursion.{All-drop, All-push, All-get_or}
use Rattle.std.proofs.lemmas.List.{length_push, get_or-append_right, take_more, drop-take, drop_all}
use Rattle.std.proofs.str.Laws.{order}
use Rattle.rules.specs.Rules.{Rule, Piece, digits, blocks_of, at, next}
use Rattle.rules.proofs.Digits.{digits_push, digits_lt, digits_rest}
use Rattle.rules.proofs.Next.{length-next, get_or-next, next_split}
use Rattle.rules.proofs.Tables.{pow_pred}
use Rattle.rules.proofs.Writing.{Filled, filled_none, filled_more, all_from_filled}
use Rattle.ring.specs.Ring.{EndsIn, unrolled, ring_from}
use Rattle.ring.proofs.Unrolled.{length-unrolled, unrolled_parts, cells_unrolled}

pow-pow : (s q : ℕ) → (2 ^ s) ^ q ≡ 2 ^ (s * q)
pow-pow s zero = pow-zero (2 ^ s) ∙ sym (ap (λ n. 2 ^ n) (mul-zero s) ∙ pow-zero 2)
pow-pow s (suc q) = pow-suc (2 ^ s) q ∙ ap (λ n. n * 2 ^ s) (pow-pow s q) ∙ sym (pow-add 2 (s * q) s) ∙ ap (λ n. 2 ^ n) (sym (mul-suc s q))

-- a shift takes s bits off the top of a word
shift_word : (n s : ℕ) → s ≤ 64 → (n * 2 ^ s) % 2 ^ 64 ≡ (n % 2 ^ (64 - s)) * 2 ^ s
shift_word n s h =
    ap (λ w. (n * 2 ^ s) % 2 ^ w) {x = 64} {y = (64 - s) + s} (omega arith)
    ∙ mod-pow-add (n * 2 ^ s) (64 - s) s
    ∙ ap₂ (λ a b. (a % 2 ^ (64 - s)) * 2 ^ s + b) (shl-shr n s) (mul-mod_left n (2 ^ s))
    ∙ omega arith

-- a number with a cell of s bits more at the right
abbrev pub word : ℕ → ℕ → ℕ → ℕ
word s n c = bit_or ((n * 2 ^ s) % 2 ^ 64) c

-- it keeps the lowest m bits
shift_in : (n s m c : ℕ) → m + s ≤ 64 → c < 2 ^ s → word s n c % 2 ^ (m + s) ≡ (n % 2 ^ m) * 2 ^ s + c
shift_in n s m c h below =
    let a = n % 2 ^ (64 - s) in
    ap (λ w. bit_or w c % 2 ^ (m + s)) (shift_word n s (omega arith))
    ∙ ap (λ w. w % 2 ^ (m + s)) (or_shifted a s c below)
    ∙ mod-pow-add (a * 2 ^ s + c) m s
    ∙ ap₂ (λ x y. (x % 2 ^ m) * 2 ^ s + y) (high a s below) (low a s below)
    ∙ ap (λ x. x * 2 ^ s + c) (ap (λ w. n % 2 ^ w % 2 ^ m) {x = 64 - s} {y = ((64 - s) - m) + m} (omega arith) ∙ mod-mod-pow n ((64 - s) - m) m)

exponent_lt : {s t : ℕ} → 2 ^ s < 2 ^ t → s < t
exponent_lt {s} {t} h = ⊎_elim (λ near. near) (λ far. absurd (omega (arith, pow_mono far))) (order s t)

-- numbers of s bits that are kinds are shifted within a word
pub bits_lt : (k s : ℕ) → k ≡ 2 ^ s → k < 2 ^ 32 → s < 64
bits_lt k s is h =
    let few : s < 32 = exponent_lt (subst (λ n. n < 2 ^ 32) is h) in
    omega arith

-- while the cells u go in behind the block b, with the number n and the cells o' in place of o: n ends in the block before
-- the cell i, and the cells before i are those of the next row
pub record Shifted (r : Rule) (b u o : List ℕ) (n : ℕ) (o' : List ℕ) (i : ℕ) : Type 0 where
  pub ends : EndsIn r n (take (r.wide - 1) (drop i (b ++ u)))
  pub filled : Filled (next r (b ++ u)) o o' i

pub shifted_none : {r : Rule} {n : ℕ} {b : List ℕ} (u o : List ℕ) → EndsIn r n b → Shifted r b u o n o 0
shifted_none {r} {n} {b} u o e =
    record { ends = subst (EndsIn r n) (sym (take_at b u (r.wide - 1) e.long)) e; filled = filled_none _ _ }

-- the window that starts at i is the block there and the next of the cells
window_at : (q : ℕ) (b u : List ℕ) (i : ℕ) → length b ≡ q → i < length u → take (q + 1) (drop i (b ++ u)) ≡ take q (drop i (b ++ u)) ++ get_or u i 0 ∷ []
window_at q b u i long h =
    take_more (drop i (b ++ u)) q 0 (omega (arith, length-drop i (b ++ u), length-append b u))
    ∙ ap (λ c. take q (drop i (b ++ u)) ++ c ∷ []) (get_or-drop i (b ++ u) q 0 ∙ get_or-append_right b u q (i + q) 0 long (omega arith) ∙ ap (λ j. get_or u j 0) {y = i} (omega arith))

-- and without its first cell the block at i + 1
block_at : (q i : ℕ) (x : List ℕ) → drop 1 (take (q + 1) (drop i x)) ≡ take q (drop (i + 1) x)
block_at q i x =
    ap (λ n. drop 1 (take n (drop i x))) {x = q + 1} {y = 1 + q} (omega arith) ∙ drop-take 1 q (drop i x) ∙ ap (take q) (drop-drop 1 i x)

module _ (r : Rule) (s : ℕ) (bits : r.kinds ≡ 2 ^ s) (wide : 1 ≤ r.wide) (small : r.kinds ^ r.wide < 2 ^ 64) where
  -- the bits of a block
  abbrev m : ℕ
  m = s * (r.wide - 1)

  blocks_bits : r.kinds ^ (r.wide - 1) ≡ 2 ^ m
  blocks_bits = ap (λ k. k ^ (r.wide - 1)) bits ∙ pow-pow s (r.wide - 1)

  windows_bits : r.kinds ^ r.wide ≡ 2 ^ (m + s)
  windows_bits = pow_pred r.kinds r.wide wide ∙ ap₂ ◌*◌ blocks_bits bits ∙ sym (pow-add 2 m s)

  within : m + s < 64
  within = exponent_lt (subst (λ n. n < 2 ^ 64) windows_bits small)

  window_number : {n : ℕ} (c : ℕ) {b : List ℕ} → EndsIn r n b → c < r.kinds → word s n c % r.kinds ^ r.wide ≡ digits r.kinds 0 (b ++ c ∷ [])
  window_number {n} c {b} e h =
      ap (λ w. word s n c % w) windows_bits
      ∙ shift_in n s m c (omega (arith, within)) (omega (arith, bits))
      ∙ ap₂ (λ x k. x * k + c) (ap (λ w. n % w) (sym blocks_bits) ∙ e.number) (sym bits)
      ∙ sym (digits_push r.kinds b c)

  ends_on : {n : ℕ} (c : ℕ) {b : List ℕ} → EndsIn r n b → c < r.kinds → EndsIn r (word s n c) (drop 1 (b ++ c ∷ []))
  ends_on {n} c {b} e h =
      let cells = All-push (λ x. x < r.kinds) b c e.cells h in
      let long = length_push b c in
      record {
        cells = All-drop (λ x. x < r.kinds) 1 (b ++ c ∷ []) cells;
        long = length-drop 1 (b ++ c ∷ []) ∙ omega (arith, e.long);
        number =
            ap (λ w. word s n c % w) blocks_bits
            ∙ sym (mod-mod-pow (word s n c) s m)
            ∙ ap₂ (λ x y. word s n c % x % y) (ap (λ e. 2 ^ e) {x = s + m} {y = m + s} (omega arith) ∙ sym windows_bits) (sym blocks_bits)
            ∙ ap (λ x. x % r.kinds ^ (r.wide - 1)) (window_number c e h)
            ∙ digits_rest r.kinds (r.wide - 1) (b ++ c ∷ []) cells (omega (arith, e.long));
      }

  masked : (n : ℕ) {mask : ℕ} → mask ≡ r.kinds ^ r.wide - 1 → bit_and n mask ≡ n % r.kinds ^ r.wide
  masked n is = ap (bit_and n) (is ∙ ap (λ w. w - 1) windows_bits) ∙ and_mask n (m + s) ∙ ap (λ w. n % w) (sym windows_bits)

  pub masked_lt : (n : ℕ) {mask : ℕ} → mask ≡ r.kinds ^ r.wide - 1 → bit_and n mask < r.kinds ^ r.wide
  masked_lt n is =
      let some : 0 < r.kinds ^ r.wide = omega (arith, windows_bits, pow_pos (m + s)) in
      omega (arith, masked n is, mod-lt n some)

  -- one cell more goes in, and one is written
  pub shifted_more : {b u o o' : List ℕ} {n i mask v : ℕ} → Shifted r b u o n o' i → length b ≡ r.wide - 1 → Piece r u → i < length u → i < length o' → mask ≡ r.kinds ^ r.wide - 1 → v ≡ get_or r.table (bit_and (word s n (get_or u i 0)) mask) 0 → Shifted r b u o (word s n (get_or u i 0)) (set o' i v) (i + 1)
  shifted_more {b} {u} {o} {o'} {n} {i} {mask} {v} f long cells h h' mask_is is =
      record {
        ends = subst (EndsIn r (word s n c)) (ap (drop 1) (sym window) ∙ block_at q i (b ++ u)) (ends_on c f.ends kind);
        filled =
            filled_more v f.filled (omega (arith, length-next r (b ++ u), length-append b u)) h'
            (is ∙ ap (λ w. get_or r.table w 0) (masked (word s n c) mask_is ∙ window_number c f.ends kind) ∙ sym next-at);
      }
    where
      q : ℕ
      q = r.wide - 1

      c : ℕ
      c = get_or u i 0

      kind : c < r.kinds
      kind = All-get_or (λ x. x < r.kinds) u i 0 h cells

      window : take (q + 1) (drop i (b ++ u)) ≡ take q (drop i (b ++ u)) ++ c ∷ []
      window = window_at q b u i long h

      next-at : get_or (next r (b ++ u)) i 0 ≡ at r (take q (drop i (b ++ u)) ++ c ∷ [])
      next-at =
          get_or-next r (b ++ u) i (omega (arith, length-append b u)) ∙ ap (at r) (ap (λ w. take w (drop i (b ++ u))) {x = r.wide} {y = q + 1} (omega (arith, wide)) ∙ window)

-- when all cells are in
pub shifted_row : {r : Rule} {b u o o' : List ℕ} {n i : ℕ} → 1 ≤ r.wide → Shifted r b u o n o' i → length b ≡ r.wide - 1 → i ≡ length u → length o' ≡ length u → o' ≡ next r (b ++ u)
shifted_row {r} {b} {u} wide f long all as_long =
    let nexts = length-next r (b ++ u) in
    let both = length-append b u in
    all_from_filled f.filled (omega arith) (omega arith)

pub shifted_block : {r : Rule} {b u o o' : List ℕ} {n i : ℕ} → Shifted r b u o n o' i → length b ≡ r.wide - 1 → i ≡ length u → EndsIn r n (drop (length u) (b ++ u))
shifted_block {r} {b} {u} {n = n} {i} f long all =
    subst (EndsIn r n) (take_all (r.wide - 1) (drop i (b ++ u)) (omega (arith, length-drop i (b ++ u), length-append b u)) ∙ ap (λ j. drop j (b ++ u)) all) f.ends

-- what comes of a block and cells behind it, cut in two: the second part begins with the block before it
next_parts : (r : Rule) → 1 ≤ r.wide → (b x y : List ℕ) → length b ≡ r.wide - 1 → next r (b ++ (x ++ y)) ≡ next r (b ++ x) ++ next r (drop (length x) (b ++ x) ++ y)
next_parts r wide b x y long =
    next_split r wide (length x) (b ++ (x ++ y))
    ∙ ap₂ (λ v w. next r v ++ next r w)
    (ap (take (length x + (r.wide - 1))) (sym (append_assoc b x y)) ∙ take_at (b ++ x) y (length x + (r.wide - 1)) (length-append b x ∙ omega arith))
    (ap (drop (length x)) (sym (append_assoc b x y)) ∙ drop-append-le (length x) (b ++ x) y (omega (arith, length-append b x)))

-- two parts that are written one behind the other
parts_written : (p t p' : List ℕ) (a : ℕ) → length p ≡ a → put_mid a (length (p ++ t) - a) (p ++ t) p' ≡ p ++ p'
parts_written p t p' a long =
    ap₂ (λ v w. v ++ (p' ++ w)) (take_at p t a long) (drop_all (length (p ++ t) - a) (drop a (p ++ t)) (omega (arith, length-drop a (p ++ t))))
    ∙ ap (λ v. p ++ v) (append-nil p')

-- the block where a second begins
pub ends_unrolled : (r : Rule) (u : List ℕ) (s : ℕ) {n : ℕ} → 0 < length u → Piece r u → n ≡ digits r.kinds 0 (unrolled s (r.wide - 1) u) → EndsIn r n (unrolled s (r.wide - 1) u)
ends_unrolled r u s some cells is =
    let b = unrolled s (r.wide - 1) u in
    let long = length-unrolled u some s (r.wide - 1) in
    let kinds = cells_unrolled u some r.kinds cells s (r.wide - 1) in
    let below = digits_lt r.kinds b kinds in
    record { cells = kinds; long = long; number = ap (λ n. n % blocks_of r) is ∙ mod-eq_of_lt (subst (λ l. digits r.kinds 0 b < r.kinds ^ l) long below) }

-- a second on a ring in two parts: the cells x from the place behind that block on, and those before it
pub shifted_ring : (r : Rule) (u : List ℕ) (s last : ℕ) (x p t p' : List ℕ) → 1 ≤ r.wide → 0 < length u → last ≡ (s + (r.wide - 1)) % length u → x ≡ drop last u → length p ≡ length u - last → p ≡ next r (unrolled s (r.wide - 1) u ++ x) → p' ≡ next r (drop (length x) (unrolled s (r.wide - 1) u ++ x) ++ take last u) → put_mid (length u - last) (length (p ++ t) - (length u - last)) (p ++ t) p' ≡ ring_from r s u
shifted_ring r u s last x p t p' wide some is x-is long first second =
    parts_written p t p' (length u - last) long
    ∙ ap₂ ◌++◌ first second
    ∙ sym (next_parts r wide (unrolled s (r.wide - 1) u) x (take last u) (length-unrolled u some s (r.wide - 1)))
    ∙ ap (next r) (ap (λ v. unrolled s (r.wide - 1) u ++ (v ++ take last u)) x-is ∙ sym (unrolled_parts u some s (r.wide - 1) is))
