-- The first word to the empty set of blocks is the first orphan.
use Rattle.std.proofs.Common.{ℕ, ◌-◌, ◌^◌, List, take, drop, Option, Some, None, Result, Ok, Err, sym, ap, ◌∙◌, length-take-le}
use Rattle.bfs.specs.declared.TooLong.{TooLong}
use Rattle.bfs.specs.Answer.{Says}
use Rattle.bfs.specs.Words.{LeadsTo, FirstWord}
use Rattle.orphans.specs.Orphans.{TellsOrphan}
use Rattle.rules.specs.Rules.{Rule}
use Rattle.theory.specs.Says.{FromNothing, FirstOrphan}
use Rattle.orphans.specs.Subsets.{SetsTell, follow}

-- all blocks
abbrev pub full_set : Rule → ℕ
full_set r = 2 ^ (r.kinds ^ (r.wide - 1)) - 1

module _ (r : Rule) (sets : SetsTell r) where
  orphan_from_word : (x : List ℕ) → LeadsTo r.kinds (follow r) (full_set r) 0 x → FromNothing r x
  orphan_from_word x leads = (sets.orphans x leads.over).0 leads.arrives

  word_from_orphan : (x : List ℕ) → FromNothing r x → LeadsTo r.kinds (follow r) (full_set r) 0 x
  word_from_orphan x orphan = record { over = orphan.0; arrives = (sets.orphans x orphan.0).1 orphan }

  first_orphan_from_word : (x : List ℕ) → FirstWord r.kinds (follow r) (full_set r) 0 x → FirstOrphan r x
  first_orphan_from_word x first =
      record {
        is = orphan_from_word x first.one;
        shortest = λ y orphan. first.shortest y (word_from_orphan y orphan);
        first = λ y orphan. first.first y (word_from_orphan y orphan);
      }

  pub tells_orphan : (o o' : List ℕ) (found : Result (Option ℕ) TooLong) → Says r.kinds (follow r) (full_set r) 0 o o' found → TellsOrphan r o o' found
  tells_orphan o o' (Ok (Some n)) stands =
      let long = length-take-le n o' stands.fits in
      (take n o', first_orphan_from_word (take n o') stands.word, sym long, (ap (λ l. take l o') long, ap (λ l. drop l o') long ∙ stands.rest ∙ ap (λ l. drop l o) (sym long)))
  tells_orphan o o' (Ok None) (never, same) = (λ x orphan. never x (word_from_orphan x orphan), same)
  tells_orphan o o' (Err e) ((x, first, long), short, same) = ((x, first_orphan_from_word x first, sym long), short, same)
