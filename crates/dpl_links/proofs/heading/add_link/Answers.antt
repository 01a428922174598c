use Rattle.std.proofs.Common.{◌∙◌, ◌-◌, ◌<◌, ◌∷◌, [], ◌++◌, ap, List, length, get_or, take}
use Rattle.dpl_links.specs.declared.linking.Link.{Link}
use Rattle.dpl_links.specs.Gathering.{StandsFor}
use Rattle.dpl_links.proofs.GatherLemmas.{place_behind, place_of_last}
use Rattle.dpl_links.proofs.heading.add_link.Goals as goal
use Rattle.dpl_links.proofs.heading.add_link.Goals.{then-is_last_behind, else-is_last_behind}

pub returns : goal.returns
returns c =
    let links : List Link = c.args.links.now.items in
    let link : Link = c.args.link in
    elim c.if-is_last_behind.branch [
      | then-is_last_behind w ↦
          let last : (d : Link) → (0 < length links) × StandsFor link (get_or links (length links - 1) d) =
          λ d. rw c.as_slice.ensures.value at (c.is_last_behind.ensures d w.if-is_last_behind.true) in
          place_of_last link links c.push.new.self.items (last link).0 (λ d. (last d).1)
          (c.in_ok-push.ensures.items ∙ ap (λ z. z.items ++ link ∷ []) w.links-is ∙ ap (λ zs. zs ++ link ∷ []) w.pop.ensures.rest ∙
          ap (λ n. take (n - 1) links ++ link ∷ []) c.args.links.now.ok.0)
      | else-is_last_behind w ↦ place_behind link links c.push.new.self.items
          (c.in_ok-push.ensures.items ∙ ap (λ z. z.items ++ link ∷ []) w.links-is)
    ]
