use Rattle.hash_c.proofs.Common.{ℕ, ◌≡◌, ◌≤◌, ◌+◌, ◌-◌, ◌∙◌, ◌++◌, [], List, length, take, drop, arith, ap, sym, subst, refl, IsPermutation, append-nil, drop_all, take_all, take_more_set, take-append-drop, hash_at, points_of}
use Rattle.std.specs.Hash.{le_bytes}
use Rattle.std.proofs.Math.Seq.{take-append_seam}
use Rattle.std.proofs.lemmas.List.{length-append, length-take-le}
use Rattle.std.proofs.lemmas.Slice.{drop-put_mid, take-put_mid}
use borrow.Rule.Slice.PartMut.{put_mid}
use Rattle.hash_ring.specs.Ring.{point}
use Rattle.hash_ring.proofs.PointLemmas.{one_more}
use Rattle.hash_c.proofs.ring.hashers_ring_points.Goals as goal

-- after a write to all bytes from a place on
written : (a k : ℕ) (xs ys : List ℕ) → a ≤ length xs → length ys ≡ k → k ≡ length xs - a → put_mid a k xs ys ≡ take a xs ++ ys
written a k xs ys low long all =
    let n = a + length ys in
    let whole = put_mid a k xs ys in
    let front = take-put_mid a k xs ys n refl low in
    let back : drop n whole ≡ [] = drop-put_mid a k xs ys n (omega (arith, long)) low long ∙ drop_all n xs (omega (arith, long, all)) in
    sym (take-append-drop n whole) ∙ (λ i. front i ++ back i) ∙ append-nil (take a xs ++ ys)

pub loop-number-preserved : goal.loop-number-preserved
unfolding le_bytes
loop-number-preserved c =
    let old = c.loop-number.text in
    let number = c.loop-number.number in
    let points = c.loop-number.points in
    let size = length c.args.text.now in
    let a = size - 8 in
    let name = take a c.args.text.now in
    let hash = hash_at c.args.kind in
    let low : a ≤ length old = omega (arith, c.loop-number.invariant.long) in
    let bytes : c.copy_from_slice.new.self ≡ le_bytes 8 number = c.copy_from_slice.ensures.after ∙ c.to_le_bytes.ensures in
    let now : put_mid a (length old - a) old c.copy_from_slice.new.self ≡ name ++ le_bytes 8 number =
    written a (length old - a) old c.copy_from_slice.new.self low
    (ap length bytes ∙ omega (arith, c.loop-number.invariant.long, c.if-text-lt8.false)) refl
    ∙ (λ i. c.loop-number.invariant.name i ++ bytes i) in
    let named : length name ≡ a = length-take-le a c.args.text.now (omega arith) in
    let place : c.hashers_hash.result ≡ point hash name number = c.hashers_hash.ensures ∙ ap hash now in
    record {
      long = ap length now ∙ length-append name (le_bytes 8 number) ∙ omega (arith, named, c.if-text-lt8.false);
      name = ap (take a) now ∙ ap (λ (n : ℕ). take n (name ++ le_bytes 8 number)) (sym named) ∙ take-append_seam name (le_bytes 8 number);
      done = take_more_set points number (record { place = c.hashers_hash.result; node = c.args.node })
          (omega (arith, c.loop-number-test.true, c.loop-number.auto.points))
          ∙ one_more hash name number c.args.node [] (take number points) c.hashers_hash.result c.loop-number.invariant.done place;
    }

pub returns-clause-just : goal.returns-clause-just
returns-clause-just c =
    let points = c.loop-number.points in
    let number = c.loop-number.number in
    let hash = hash_at c.args.kind in
    let name = take (length c.args.text.now - 8) c.args.text.now in
    let all : number ≡ length c.args.points.now = omega (arith, c.loop-number-test.false, c.loop-number.auto.number-end) in
    let is : points ≡ points_of hash (name, length c.args.points.now) c.args.node =
    sym (take_all number points (omega (arith, c.loop-number-test.false, c.loop-number.auto.points))) ∙ c.loop-number.invariant.done
    ∙ ap (λ (n : ℕ). points_of hash (name, n) c.args.node) all in
    subst (λ ps. IsPermutation ps c.hashers_ring_sort.new.points) is c.hashers_ring_sort.ensures.moved

pub returns-clause-ordered : goal.returns-clause-ordered
returns-clause-ordered c = c.hashers_ring_sort.ensures.ordered

pub returns-clause-name : goal.returns-clause-name
returns-clause-name c = c.loop-number.invariant.name
