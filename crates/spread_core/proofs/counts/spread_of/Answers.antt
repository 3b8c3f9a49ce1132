use Rattle.spread_core.proofs.Common.{◌≡◌, ap, ◌∙◌, arith, ◌*◌, eqb, refl, count_by, sum, sum_by, bucket_counts}
use Rattle.spread_core.proofs.CountLemmas.{fullest_of}
use Rattle.spread_core.proofs.counts.spread_of.Goals as goal

pub squares-requires : goal.squares-requires
squares-requires c =
    let all = ap sum (c.deref-3.ensures.value ∙ c.in_ok-counts.ensures)
    ∙ c.buckets_have_all_hashes.ensures c.args.buckets c.args.hashes.now c.requires in
    omega (arith, all)

pub returns : goal.returns
returns c =
    let is : c.deref.result.now ≡ bucket_counts c.args.buckets c.args.hashes.now = c.deref.ensures.value ∙ c.in_ok-counts.ensures in
    record {
      of_buckets = refl;
      has_fullest = fullest_of c.args.buckets c.args.hashes.now c.deref.result.now c.fullest.result c.requires is c.fullest.ensures.most
          c.fullest.ensures.reached;
      has_empty = c.empty.ensures ∙ ap (count_by (λ count. eqb count 0)) (c.deref-2.ensures.value ∙ c.in_ok-counts.ensures);
      has_squares = c.squares.ensures ∙ ap (sum_by (λ count. count * count)) (c.deref-3.ensures.value ∙ c.in_ok-counts.ensures);
    }
