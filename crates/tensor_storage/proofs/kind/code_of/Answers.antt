use Rattle.std.proofs.Common.{subst}
use Rattle.tensor_storage.specs.Calls.{MayAsk}
use Rattle.tensor_storage.proofs.kind.code_of.Goals as goal

pub frag_segment-requires : goal.frag_segment-requires
frag_segment-requires g c = subst (λ call. MayAsk call c.args.tensor c.args.args.now c.args.free) c.in-Segment.is c.requires

pub frag_coord-requires : goal.frag_coord-requires
frag_coord-requires g c = subst (λ call. MayAsk call c.args.tensor c.args.args.now c.args.free) c.in-Coord.is c.requires

pub frag_child-requires : goal.frag_child-requires
frag_child-requires g c = subst (λ call. MayAsk call c.args.tensor c.args.args.now c.args.free) c.in-Child.is c.requires

pub frag_locate-requires : goal.frag_locate-requires
frag_locate-requires g c = subst (λ call. MayAsk call c.args.tensor c.args.args.now c.args.free) c.in-Locate.is c.requires

pub frag_reserve-requires : goal.frag_reserve-requires
frag_reserve-requires g c =
    let k = subst (λ call. MayAsk call c.args.tensor c.args.args.now c.args.free) c.in-Reserve.is c.requires in
    record { arguments = k.0; result = k.1 }

pub frag_append-requires : goal.frag_append-requires
frag_append-requires g c =
    let k = subst (λ call. MayAsk call c.args.tensor c.args.args.now c.args.free) c.in-Append.is c.requires in
    record { arguments = k.0; result = k.1 }

pub frag_edges-requires : goal.frag_edges-requires
frag_edges-requires g c =
    let k = subst (λ call. MayAsk call c.args.tensor c.args.args.now c.args.free) c.in-Edges.is c.requires in
    record { arguments = k.0; result = k.1 }

pub frag_prepare-requires : goal.frag_prepare-requires
frag_prepare-requires g c =
    let k = subst (λ call. MayAsk call c.args.tensor c.args.args.now c.args.free) c.in-Prepare.is c.requires in
    record { arguments = k.0; result = k.1 }

pub frag_insert-requires : goal.frag_insert-requires
frag_insert-requires g c =
    let k = subst (λ call. MayAsk call c.args.tensor c.args.args.now c.args.free) c.in-Insert.is c.requires in
    record { arguments = k.0; result = k.1 }
