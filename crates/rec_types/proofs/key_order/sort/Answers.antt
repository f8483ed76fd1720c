use Rattle.std.proofs.Common.{rules, length}
use Rattle.std.specs.List.{range_with_len}
use Rattle.std.proofs.lemmas.Fn.{always_returns_same}
use Rattle.std.proofs.lemmas.List.Sorted.{IsPermutation-trans}
use Rattle.rec_types.proofs.KeyOrderLemmas.{goes_before, places_ranked, sorted_there}
use Rattle.rec_types.proofs.key_order.sort.Goals as goal

pub returns : goal.returns
returns c =
    let keys = c.args.keys.now in
    let moves = IsPermutation-trans (range_with_len 0 (length keys)) c.args.places.now.items c.sort_by.new.self.items c.requires c.sort_by.ensures.permutation in record {
      all = moves;
      sorted = sorted_there keys c.sort_by.new.self.items moves (c.in_ok-sort_by.ensures.sorted (goes_before keys) (places_ranked keys) (always_returns_same _ _ _ (λ a r f h. search rules)));
    }
