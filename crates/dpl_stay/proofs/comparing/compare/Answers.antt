use Rattle.std.proofs.Common.{◌≡◌, length, sym, ap, ◌∙◌}
use Rattle.dpl_stay.proofs.KeepLemmas.{AreTaken, fine_long, are_staying}
use Rattle.dpl_stay.proofs.comparing.compare.Goals as goal

pub of_whole_components-requires-clause-long : goal.of_whole_components-requires-clause-long
of_whole_components-requires-clause-long c =
    let e = rw (c.as_slice-3.ensures.value, c.as_slice-4.ensures.value, c.as_slice-5.ensures.value, c.as_slice-6.ensures.value) at c.in_ok-fine.ensures in
    rw (c.as_slice-7.ensures.value, c.as_slice-8.ensures.value) (
    c.in_ok-number.ensures.components.long ∙ c.requires.new.nodes ∙ sym c.in_ok-there.ensures.long ∙
    sym (fine_long c.args.net.now c.args.old.now c.in_ok-there.there.items c.in_ok-back.back.items
    c.in_ok-twins_there.twins_there.items c.in_ok-twins_back.twins_back.items) ∙ sym (ap length e))

taken_here : (c : goal.After-drop-back-2) → AreTaken c.args.rects.now c.args.old_rects.now c.args.net.now c.args.old.now
    c.in_ok-there.there.items c.in_ok-back.back.items c.in_ok-twins_there.twins_there.items
    c.in_ok-twins_back.twins_back.items
    c.in_ok-fine.fine.items c.in_ok-number.number.items c.in_ok-number.count c.in_ok-taken.taken.items
taken_here c =
    let fine_is = rw (c.as_slice-3.ensures.value, c.as_slice-4.ensures.value, c.as_slice-5.ensures.value, c.as_slice-6.ensures.value) at c.in_ok-fine.ensures in
    let size : length c.in_ok-fine.fine.items ≡ c.args.net.now.graph.nodes = ap length fine_is
    ∙ fine_long c.args.net.now c.args.old.now c.in_ok-there.there.items c.in_ok-back.back.items
    c.in_ok-twins_there.twins_there.items c.in_ok-twins_back.twins_back.items ∙ c.in_ok-there.ensures.long ∙
    sym c.requires.new.nodes in
    record {
      matched = record {
        nets = record {
          new_order = c.requires.new.order;
          old_order = c.requires.old.order;
          new_edges = c.requires.new.edges;
          old_edges = c.requires.old.edges;
          new_nodes = c.requires.new.nodes;
          old_nodes = c.requires.old.nodes;
        };
        partners = c.in_ok-there.ensures;
        back = c.in_ok-back.ensures;
        twins = rw c.as_slice.ensures.value at c.in_ok-twins_there.ensures;
        twins_back = rw c.as_slice-2.ensures.value at c.in_ok-twins_back.ensures;
      };
      components = c.in_ok-number.ensures.components;
      within = c.in_ok-number.ensures.within;
      long = c.in_ok-taken.ensures.long ∙ ap length c.as_slice-7.ensures.value ∙ size;
      fine_is = fine_is;
      fine_size = size;
      each = rw (c.as_slice-7.ensures.value, c.as_slice-8.ensures.value) at c.in_ok-taken.ensures.each;
    }

pub returns : goal.returns
returns c = are_staying c.args.rects.now c.args.old_rects.now c.args.net.now c.args.old.now _ _ _ _ _ _ _ _ (taken_here c)
