use Rattle.std.proofs.Common.{subst}
use Rattle.command_text.specs.declared.reply.Reply.{Reply}
use Rattle.std.specs.String.{string_bytes}
use Rattle.tx_log.specs.Written.{own, writes}
use Rattle.recfile.specs.Run.{ToldReply, commit_reply}
use Rattle.recfile.proofs.CommitCallLemmas.{commit_told}
use Rattle.recfile.proofs.call.commit.Goals as goal

pub returns : goal.returns
returns g c = record {
  told = record {
    told = λ was is. (
      commit_reply c.commit_kept.result,
      commit_told g.T.TableState c.args.file.now c.commit_kept.new.self c.commit_kept.ensures.same c.commit_kept.ensures.log g.K.Keeper.keeps (g.K.Keeper.answers c.args.keeper.now) c.args.tx (λ answer asked keeps. g.met.K.CommitKeeper.tells c.args.keeper.now c.args.file.now.table c.commit_kept.new.self.table (writes (own c.args.tx.0 c.args.file.now.file.history)) answer asked keeps) c.commit_kept.result c.commit_kept.ensures.step c.commit_kept.ensures.asked was is,
      subst (λ (r : Reply). ToldReply r c.tell.result (string_bytes c.tell.new.text)) c.reply_of.ensures c.tell.ensures,
    );
    moves_so = c.commit_kept.ensures.moves;
  };
}
