-- What is kept of a piece that is read, with one cell more.
use Rattle.std.proofs.Common.{◌≡◌, ℕ, ◌+◌, ◌-◌, ◌*◌, ◌%◌, ◌^◌, ◌<◌, ◌≤◌, List, [], ◌∷◌, ◌++◌, length, get_or, sym, ap, ◌∙◌, arith}
use Rattle.std.proofs.ByRecursion.{All-drop, All-push}
use Rattle.std.proofs.lemmas.List.{length_push}
use Rattle.inverse.specs.declared.table.Prefix.{Prefix}
use Rattle.inverse.specs.Prefixes.{Keeps}
use Rattle.rules.specs.Rules.{Rule, digits, at, next}
use Rattle.rules.proofs.Digits.{digits_push, digits_rest}
use Rattle.inverse.proofs.Reading.{last_of, length_last, last_push_short, last_push, next_push_short, next_push}

module _ {r : Rule} {o : ℕ} {p : List ℕ} {x : Prefix} (keeps : Keeps r o p x) (c : ℕ) where
  -- the number of the last block and the cell
  pub keeps_window : {n : ℕ} → n ≡ x.block.0 * r.kinds + c → n ≡ digits r.kinds 0 (last_of (r.wide - 1) p ++ c ∷ [])
  keeps_window is = is ∙ ap (λ b. b * r.kinds + c) keeps.block ∙ sym (digits_push r.kinds (last_of (r.wide - 1) p) c)

  -- while there is no window
  pub keeps_short : {y : Prefix} → c < r.kinds → length p + 1 < r.wide → y.long ≡ x.long + 1 → y.block.0 ≡ x.block.0 * r.kinds + c → y.number.0 ≡ x.number.0 → y.told.0 ≡ get_or (p ++ c ∷ []) o 0 → Keeps r o (p ++ c ∷ []) y
  keeps_short kind short long block number told =
      record {
        cells = All-push (λ a. a < r.kinds) p c keeps.cells kind;
        long = long ∙ omega (arith, keeps.long, length_push p c);
        block = keeps_window block ∙ ap (digits r.kinds 0) (sym (last_push_short (r.wide - 1) p c (omega arith)));
        number = number ∙ keeps.number ∙ ap (digits r.kinds 0) (sym (next_push_short r p c short));
        told = told;
      }

  -- and then with what comes of the last window
  pub keeps_long : {y : Prefix} {w : ℕ} → 1 ≤ r.wide → c < r.kinds → r.wide ≤ length p + 1 → w ≡ x.block.0 * r.kinds + c → y.long ≡ x.long + 1 → y.block.0 ≡ w % r.kinds ^ (r.wide - 1) → y.number.0 ≡ x.number.0 * r.kinds + get_or r.table w 0 → y.told.0 ≡ get_or (p ++ c ∷ []) o 0 → Keeps r o (p ++ c ∷ []) y
  keeps_long {w = w} some kind enough window long block number told =
      let k = r.kinds in
      let q = r.wide - 1 in
      let last = last_of q p ++ c ∷ [] in
      let is : w ≡ digits k 0 last = keeps_window window in
      let cells-last = All-push (λ a. a < k) (last_of q p) c (All-drop (λ a. a < k) (length p - q) p keeps.cells) kind in
      let long-last : length last ≡ q + 1 = omega (arith, length_push (last_of q p) c, length_last q p (omega arith)) in
      record {
        cells = All-push (λ a. a < k) p c keeps.cells kind;
        long = long ∙ omega (arith, keeps.long, length_push p c);
        block = block ∙ ap (λ d. d % k ^ q) is ∙ digits_rest k q last cells-last long-last ∙ ap (digits k 0) (sym (last_push q p c (omega arith)));
        number = number ∙ ap (λ d. x.number.0 * k + get_or r.table d 0) is ∙ ap (λ d. d * k + at r last) keeps.number ∙ sym (digits_push k (next r p) (at r last)) ∙ ap (digits k 0) (sym (next_push r some p c enough));
        told = told;
      }
