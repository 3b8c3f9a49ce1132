use Rattle.spread_core.proofs.Common.{ℕ, ◌≡◌, ◌+◌, ◌≤◌, ◌%◌, get_or, length, take, ap, ◌∙◌, arith, eqb, set, get_or_read, length-set, take_all, fill_by_all, count_by-le-length, in_bucket}
use Rattle.std.proofs.lemmas.List.{length-take}
use Rattle.spread_core.proofs.CountLemmas.{bucket_more}
use Rattle.spread_core.proofs.counts.bucket_counts.Goals as goal

pub overflow_add-index_mut : goal.overflow_add-index_mut
overflow_add-index_mut c =
    let m = c.args.buckets in
    let i = c.loop-hash.hash-index in
    let r : ℕ = get_or c.args.hashes.now i 0 % m in
    let at : c.index_mut.result.now ≡ get_or c.loop-hash.counts.items r 0 =
    get_or_read c.loop-hash.counts.items r c.index_mut.result.now (omega arith) c.index_mut.ensures.value 0 in
    let each : get_or c.loop-hash.counts.items r 0 ≡ in_bucket m r (take i c.args.hashes.now) =
    c.loop-hash.invariant.each r (omega arith) in
    let few : in_bucket m r (take i c.args.hashes.now) ≤ length (take i c.args.hashes.now) =
    count_by-le-length (λ hash. eqb (hash % m) r) (take i c.args.hashes.now) in
    omega (arith, at, each, few, length-take i c.args.hashes.now)

pub loop-hash-preserved : goal.loop-hash-preserved
loop-hash-preserved c =
    let m = c.args.buckets in
    let i = c.loop-hash.hash-index in
    let r : ℕ = get_or c.args.hashes.now i 0 % m in
    let items = c.loop-hash.counts.items in
    let at : c.index_mut.result.now ≡ get_or items r 0 =
    get_or_read items r c.index_mut.result.now (omega arith) c.index_mut.ensures.value 0 in
    record {
      len = length-set items r (c.index_mut.result.now + 1) ∙ c.loop-hash.invariant.len;
      each = λ b b_in. ap (λ v. get_or (set items r (v + 1)) b 0) at
          ∙ bucket_more m c.args.hashes.now items i c.loop-hash-test.true c.loop-hash.invariant.len c.loop-hash.invariant.each b b_in;
    }

pub returns : goal.returns
returns c =
    let m = c.args.buckets in
    let hashes = c.args.hashes.now in
    let all : take c.loop-hash.hash-index hashes ≡ hashes = take_all c.loop-hash.hash-index hashes (omega arith) in
    fill_by_all (λ b. in_bucket m b hashes) c.loop-hash.counts.items m 0 c.loop-hash.invariant.len
    (λ b b_in. c.loop-hash.invariant.each b b_in ∙ ap (in_bucket m b) all)
