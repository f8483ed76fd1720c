use Rattle.std.proofs.Common.{◌≡◌, ◌+◌, ◌-◌, ◌*◌, suc, ℕ, length, arith, ap, ◌∙◌, subst}
use Rattle.std.specs.List.{insert}
use Rattle.std.proofs.Math.Nat.{mul-le-mul_left}
use Rattle.byteorder.specs.Endian.{big_bytes}
use Rattle.btree_node.specs.declared.node.Node.{Node}
use Rattle.btree_node.specs.declared.node.NodeKind.{NodeKind}
use Rattle.btree_node.specs.Layout.{second_layout, sons_start}
use Rattle.btree_node.specs.Reading.{part}
use Rattle.btree_node.specs.Spelling.{SonsFit}
use Rattle.btree_node.specs.Written.{put_at, with_elements}
use Rattle.btree_node.proofs.ChangedPageLemmas.{length-front_more}
use Rattle.btree_node.proofs.SonPutLemmas.{son_put}
use Rattle.btree_node.proofs.SpeltPageLemmas.{count_spelt}
use Rattle.btree_node.proofs.changing.insert_son_in.Goals as goal

pub returns : goal.returns
returns c = λ n can inner is.
    let k = c.args.k in
    let i = c.args.i in
    let count = count_spelt k c.args.page.now n c.requires.page.0 can is in
    let longer : Node = with_elements n (insert n.elements.items i c.args.element.now) in
    let start = sons_start second_layout k in
    let value : c.sons_start-sons.result ≡ start = c.sons_start-sons.ensures.value in
    let page = c.insert_in.new.page in
    let A : ℕ = c.sons_start-sons.result + 4 * (i + 1) in
    let B : ℕ = c.sons_start-sons.result + 4 * (c.count_of-count.result + 1) in
    let fan = (subst (λ (kind : NodeKind). SonsFit kind (length n.elements.items) n.sons.items) inner can.sons).0 in
    son_put k (suc i) c.args.son longer c.insert_in.new.page c.move_bytes.new.page c.put_son.new.page (c.insert_in.ensures n can is) c.insert_in.array_long
    (omega (arith, length-front_more k i n c.args.element.now can c.requires.element (omega (arith, count, c.requires.index)), mul-le-mul_left {m = length n.elements.items + 1} {n = 2 * k} 118 (omega (arith, count, c.requires.room))))
    (omega (arith, fan, count, c.requires.index)) (omega (arith, fan, count, c.requires.room, c.requires.page.0, c.sons_start-sons.ensures.within, c.sons_start-sons.ensures.value))
    (c.move_bytes.ensures ∙ ap (λ at. put_at at (part A (B - A) page) page) (omega (arith, value))
    ∙ ap (λ from. put_at (start + 4 * (suc i + 1)) (part from (B - A) page) page) (omega (arith, value))
    ∙ ap (λ n. put_at (start + 4 * (suc i + 1)) (part (start + 4 * suc i) n page) page) (omega (arith, value, fan, count, c.count_of-count.ensures)))
    (c.put_son.ensures ∙ ap (λ at. put_at at (big_bytes 4 c.args.son) c.move_bytes.new.page) (omega (arith, value)))
