use Rattle.std.proofs.Common.{◌≡◌, ◌*◌, length, take, drop, min}
use Rattle.std.specs.Slice.Iter.{chunks_rest, chunks_size}
use Rattle.scheme.specs.Covering.{covered}
use Rattle.scheme.proofs.cover.Given as goal

abbrev pub invariant-loop-index : goal.invariant-loop-index
invariant-loop-index g l =
    let parts = l.index-iterator in
    let at = min (parts.count * l.size) (length l.plain) in
    record {
      next : (goal.iterator-loop-index g).can_next parts;
      ends : (goal.iterator-loop-index g).is_finite parts;
      size : chunks_size parts.iter ≡ l.size;
      rest : chunks_rest parts.iter ≡ drop (parts.count * l.size) l.plain;
      front : take at l.out ≡ take at (covered ((g.S.Scheme.meaning l.scheme).block l.key) l.size l.plain);
      left : drop (length l.plain) l.out ≡ drop (length l.plain) l.initial.out;
    }
