-- Rounds over the pairs: what the words say after each, and when no round drops a pair.
use Rattle.std.proofs.Common.{◌≡◌, ℕ, zero, suc, ◌+◌, ◌*◌, ◌<◌, ◌≤◌, Bool, true, false, cond, eqb, ◌⊎◌, List, length, get_or, take, drop, set, replicate, count_by, sym, refl, ap, ◌∙◌, subst, inl, inr, ⊎_elim, not-le_of_lt, add-one, arith}
use borrow.Rule.Slice.PartMut.{put_mid}
use Rattle.std.proofs.lemmas.List.{take-take, drop-drop, length-replicate, get_or-replicate, length-set, get_or-set_same, get_or-set_other}
use Rattle.std.proofs.lemmas.Slice.{between_is, between-put_mid, take-put_mid_below, drop-put_mid}
use Rattle.std.proofs.lemmas.List.Sums.{sum_by-set}
use Rattle.std.proofs.lemmas.Bool.{true≢false, false≢true, cases_lt, cases_eq, eq-eqb, ne_eqb, cond-true, cond-false}
use Rattle.pairs.specs.declared.graph.Direction.{Direction}
use Rattle.pairs.specs.declared.graph.Direction.TheVariants.{Past, Future}
use Rattle.rules.specs.Rules.{Rule, IsRule}
use Rattle.pairs.specs.Pairs.{pairs_of, Has, endless, Depths, Writes, Graph, Known, Rounds, Edge, neighbour_of}
use Rattle.pairs.proofs.Edges.{has_none, has_more, edge_from_has, has_less}

-- the words of the round n, which were o, when it has come to the pair i
pub record Swept (r : Rule) (d : Direction) (n i : ℕ) (o ws : List ℕ) (dropped : Bool) : Type 0 where
  pub long : length ws ≡ pairs_of r
  pub done : (x : ℕ) → x < i → x < pairs_of r → Known r d (n + 1) x (get_or ws x 0)
  pub still : (x : ℕ) → i ≤ x → x < pairs_of r → Known r d n x (get_or ws x 0)
  pub fewer : dropped ≡ true → count_by (eqb endless) ws < count_by (eqb endless) o
  pub same : dropped ≡ false → ws ≡ o

pub swept_none : {r : Rule} {d : Direction} {n : ℕ} {ws : List ℕ} → Rounds r d n ws → Swept r d n 0 ws ws false
swept_none rounds =
    record { long = rounds.long; done = λ x h. absurd (omega arith); still = λ x _. rounds.each x; fewer = λ e. absurd (false≢true e); same = λ _. refl }

-- one pair less is left
fewer_left : (n i : ℕ) (ws : List ℕ) → i < length ws → get_or ws i 0 ≡ endless → n < endless → count_by (eqb endless) (set ws i n) < count_by (eqb endless) ws
fewer_left n i ws inside is less =
    let was = cond-true {A = ℕ} (eqb endless (get_or ws i 0)) 1 0 (eq-eqb endless (get_or ws i 0) (sym is)) in
    let now = cond-false {A = ℕ} (eqb endless n) 1 0 (ne_eqb endless n (λ e. omega arith)) in
    omega (arith, sum_by-set (λ w. cond (eqb endless w) 1 0) ws i n 0 inside)

module _ (r : Rule) (rule : IsRule r) (d : Direction) where
  has_below : (m n x : ℕ) → x < pairs_of r → m ≤ n → Has r d n x → Has r d m x
  has_below m zero x h l has = subst (λ i. Has r d i x) {x = 0} (omega arith) has
  has_below m (suc n) x h l has =
      ⊎_elim (λ less. has_below m n x h (omega arith) (has_less r rule d n x h (rw add-one has))) (λ ge. subst (λ i. Has r d i x) {x = suc n} (omega arith) has) (cases_lt m (suc n))

  -- a pair that an earlier round dropped
  known_before : (n x w : ℕ) → x < pairs_of r → Known r d n x w → w < n → Known r d (n + 1) x w
  known_before n x w h known before =
      record {
        exact = λ j l. ⊎_elim (λ less. known.exact j (omega arith)) (λ more. (λ has. absurd (omega (arith, (known.exact n (omega arith)).0 (has_below n j x h (omega arith) has))), λ ge. absurd (omega arith))) (cases_lt j (n + 1));
        few = inl (omega arith);
      }

  -- a pair that this round leaves
  known_left : (n x w : ℕ) → n < endless → Known r d n x w → n ≤ w → Has r d (n + 1) x → Known r d (n + 1) x w
  known_left n x w small known ge has =
      let is : w ≡ endless = ⊎_elim (λ l. absurd (omega arith)) (λ e. e) known.few in
      record {
        exact = λ j l. ⊎_elim (λ less. known.exact j (omega arith)) (λ more. (λ _. omega arith, λ _. subst (λ i. Has r d i x) {x = n + 1} (omega arith) has)) (cases_lt j (n + 1));
        few = inr is;
      }

  -- a pair that this round drops
  known_dropped : (n x w : ℕ) → Known r d n x w → n ≤ w → (Has r d (n + 1) x → ⊥) → Known r d (n + 1) x n
  known_dropped n x w known ge none =
      record {
        exact = λ j l. ⊎_elim (λ less. (λ _. omega arith, λ _. (known.exact j (omega arith)).1 (omega arith))) (λ more. (λ has. absurd (none (subst (λ i. Has r d i x) {y = n + 1} (omega arith) has)), λ le. absurd (omega arith))) (cases_lt j (n + 1));
        few = inl (omega arith);
      }

  module _ {n i : ℕ} {o ws : List ℕ} {dropped : Bool} (swept : Swept r d n i o ws dropped) where
    pub rounds_from_swept : pairs_of r ≤ i → Rounds r d (n + 1) ws
    rounds_from_swept all = record { long = swept.long; each = λ x h. swept.done x (omega arith) h }

    -- the words of the round itself do no harm: a pair has n edges if its word is no earlier round
    left_from_swept : (x : ℕ) → x < pairs_of r → (Has r d n x → n ≤ get_or ws x 0) × (n ≤ get_or ws x 0 → Has r d n x)
    left_from_swept x h =
        ⊎_elim (λ l. (swept.done x l h).exact n (omega arith)) (λ l. (swept.still x l h).exact n (omega arith)) (cases_lt x i)

    here : i < pairs_of r → Known r d n i (get_or ws i 0)
    here inside = swept.still i (omega arith) inside

    swept_keep : Known r d (n + 1) i (get_or ws i 0) → Swept r d n (i + 1) o ws dropped
    swept_keep known =
        record {
          long = swept.long;
          done = λ x h l. ⊎_elim (λ e. subst (λ y. Known r d (n + 1) y (get_or ws y 0)) (sym e) known) (λ other. swept.done x (omega arith) l) (cases_eq x i);
          still = λ x h l. swept.still x (omega arith) l;
          fewer = swept.fewer;
          same = swept.same;
        }

    -- the round comes to a pair that is gone
    pub swept_gone : i < pairs_of r → get_or ws i 0 < n → Swept r d n (i + 1) o ws dropped
    swept_gone inside before = swept_keep (known_before n i (get_or ws i 0) inside (here inside) before)

    -- to a pair with an edge e to a pair y that was left
    pub swept_left : i < pairs_of r → n < endless → n ≤ get_or ws i 0 → (e y : ℕ) → e < r.kinds * r.kinds → Edge r d i e → y ≡ neighbour_of r d i e → y < pairs_of r → n ≤ get_or ws y 0 → Swept r d n (i + 1) o ws dropped
    swept_left inside small left e y few edge is y-in y-left =
        swept_keep (known_left n i (get_or ws i 0) small (here inside) left (has_more r rule d n i e inside few edge (subst (Has r d n) is ((left_from_swept y y-in).1 y-left))))

    -- an edge to a pair that was gone does not count
    pub edge_gone : (e y : ℕ) → y ≡ neighbour_of r d i e → y < pairs_of r → get_or ws y 0 < n → Has r d n (neighbour_of r d i e) → ⊥
    edge_gone e y is y-in gone has = not-le_of_lt gone ((left_from_swept y y-in).0 (subst (Has r d n) (sym is) has))

    -- to a pair with no edge that counts
    pub swept_dropped : i < pairs_of r → n < endless → n ≤ get_or ws i 0 → ((e : ℕ) → e < r.kinds * r.kinds → Edge r d i e → Has r d n (neighbour_of r d i e) → ⊥) → Swept r d n (i + 1) o (set ws i n) true
    swept_dropped inside small left none =
        record {
          long = length-set ws i n ∙ swept.long;
          done = λ x h l. ⊎_elim (λ e. subst (λ y. Known r d (n + 1) y (get_or (set ws i n) y 0)) (sym e) (subst (Known r d (n + 1) i) (sym (get_or-set_same ws i n 0 in_ws)) known)) (λ other. subst (Known r d (n + 1) x) (sym (get_or-set_other ws i x n 0 other)) (swept.done x (omega arith) l)) (cases_eq x i);
          still = λ x h l. subst (Known r d n x) (sym (get_or-set_other ws i x n 0 (λ e. omega arith))) (swept.still x (omega arith) l);
          fewer = λ _. omega (arith, fewer_left n i ws in_ws was small, no_more dropped swept.fewer swept.same);
          same = λ e. absurd (true≢false e);
        }
      where
        known : Known r d (n + 1) i n
        known = known_dropped n i (get_or ws i 0) (here inside) left (λ has. let (e, few, edge, _, rest) = edge_from_has r rule d n i has in none e few edge rest)

        in_ws : i < length ws
        in_ws = omega (arith, swept.long)

        was : get_or ws i 0 ≡ endless
        was = ⊎_elim (λ l. absurd (omega arith)) (λ e. e) (here inside).few

        no_more : (b : Bool) → (b ≡ true → count_by (eqb endless) ws < count_by (eqb endless) o) → (b ≡ false → ws ≡ o) → count_by (eqb endless) ws ≤ count_by (eqb endless) o
        no_more true f e = omega (arith, f refl)
        no_more false f e = omega (arith, ap (count_by (eqb endless)) (e refl))

  -- all are there at first
  pub rounds_none : (n : ℕ) (ws : List ℕ) → n ≡ pairs_of r → ws ≡ replicate n endless → Rounds r d 0 ws
  rounds_none n ws many full =
      record {
        long = ap length full ∙ length-replicate n endless ∙ many;
        each = λ x h. record { exact = λ j l. (λ _. omega arith, λ _. subst (λ i. Has r d i x) {x = 0} (omega arith) (has_none r rule d x h)); few = inr (ap (λ l. get_or l x 0) full ∙ get_or-replicate n x endless 0 (omega arith)) };
      }

  -- after a round that drops none, each pair that is left has any number of edges
  module _ (n : ℕ) (small : n < endless) (ws : List ℕ) (before : Rounds r d n ws) (after : Rounds r d (n + 1) ws) where
    stays : (m x : ℕ) → x < pairs_of r → Has r d (n + m) x → Has r d ((n + m) + 1) x
    stays zero x h has =
        let ge = ((before.each x h).exact n (omega arith)).0 (subst (λ i. Has r d i x) {y = n} (omega arith) has) in
        let is : get_or ws x 0 ≡ endless = ⊎_elim (λ l. absurd (omega arith)) (λ e. e) (before.each x h).few in
        subst (λ i. Has r d i x) {x = n + 1} (omega arith) (((after.each x h).exact (n + 1) (omega arith)).1 (omega arith))
    stays (suc m) x h has =
        let (e, few, same, inside, rest) = edge_from_has r rule d (n + m) x (subst (λ i. Has r d i x) {y = (n + m) + 1} (omega arith) has) in
        has_more r rule d (n + suc m) x e h few same (subst (λ i. Has r d i (neighbour_of r d x e)) {x = (n + m) + 1} (omega arith) (stays m (neighbour_of r d x e) inside rest))

    for_ever : (m x : ℕ) → x < pairs_of r → Has r d n x → Has r d (n + m) x
    for_ever zero x h has = subst (λ i. Has r d i x) {x = n} (omega arith) has
    for_ever (suc m) x h has = subst (λ i. Has r d i x) {x = (n + m) + 1} (omega arith) (stays m x h (for_ever m x h has))

    pub depths_from_rounds : n ≤ pairs_of r → Depths r d ws
    depths_from_rounds few-rounds = record { long = before.long; each = λ x h. record { exact = λ j. (most j x h, least j x h); few = ⊎_elim (λ l. inl (omega arith)) inr (before.each x h).few } }
      where
        most : (j x : ℕ) → x < pairs_of r → Has r d j x → (j ≤ get_or ws x 0) ⊎ (get_or ws x 0 ≡ endless)
        most j x h has =
            let known = before.each x h in
            ⊎_elim (λ l. inl (⊎_elim (λ low. (known.exact j (omega arith)).0 has) (λ high. absurd (omega (arith, (known.exact n (omega arith)).0 (has_below n j x h high has)))) (cases_lt j n))) inr known.few

        least : (j x : ℕ) → x < pairs_of r → (j ≤ get_or ws x 0) ⊎ (get_or ws x 0 ≡ endless) → Has r d j x
        least j x h either =
            let known = before.each x h in
            let all : get_or ws x 0 ≡ endless → Has r d j x = λ e. has_below j (n + j) x h (omega arith) (for_ever j x h ((known.exact n (omega arith)).1 (omega arith))) in
            ⊎_elim (λ le. ⊎_elim (λ l. (known.exact j (omega arith)).1 le) all known.few) all either

-- a part of the lent words that a word for each pair was written to
pub writes_part : (r : Rule) (d : Direction) (base n : ℕ) (ws part : List ℕ) → Depths r d part → n ≡ pairs_of r → base + pairs_of r ≤ length ws → Writes r d base ws (put_mid base n ws part)
writes_part r d base n ws part depths is inside =
    record {
      depths = subst (Depths r d) (sym (between-put_mid base n ws part (base + pairs_of r) (omega arith) (omega (arith, depths.long)))) depths;
      before = take-put_mid_below base n ws part base (omega arith) (omega arith);
      after = drop-put_mid base n ws part (base + pairs_of r) (omega arith) (omega arith) (omega (arith, depths.long));
    }

-- the pasts, and behind them the futures
pub graph_from_writes : (r : Rule) (base : ℕ) (ws ws' ws'' : List ℕ) → Writes r Past base ws ws' → Writes r Future (base + pairs_of r) ws' ws'' → Graph r base ws ws''
graph_from_writes r base ws ws' ws'' pasts futures =
    record {
      pasts = subst (Depths r Past) (between_is ws' base (base + pairs_of r) ∙ ap (drop base) (sym futures.before) ∙ sym (between_is ws'' base (base + pairs_of r))) pasts.depths;
      futures = futures.depths;
      before = front futures.before ∙ pasts.before;
      after = futures.after ∙ rest pasts.after;
    }
  where
    front : take (base + pairs_of r) ws'' ≡ take (base + pairs_of r) ws' → take base ws'' ≡ take base ws'
    front e = sym (take-take base (base + pairs_of r) ws'' (omega arith)) ∙ ap (take base) e ∙ take-take base (base + pairs_of r) ws' (omega arith)

    rest : drop (base + pairs_of r) ws' ≡ drop (base + pairs_of r) ws → drop ((base + pairs_of r) + pairs_of r) ws' ≡ drop ((base + pairs_of r) + pairs_of r) ws
    rest e = sym (drop-drop (pairs_of r) (base + pairs_of r) ws') ∙ ap (drop (pairs_of r)) e ∙ drop-drop (pairs_of r) (base + pairs_of r) ws
