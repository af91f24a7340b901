use Rattle.lock_desk.proofs.SeveralPages.{locks-are-told, pages-tell}
use Rattle.lock_desk.proofs.book.pages.pages_tell_each_lock_once.Goals as goal

pub returns-clause-look : goal.returns-clause-look
returns-clause-look c = locks-are-told

pub returns-clause-looks : goal.returns-clause-looks
returns-clause-looks c = pages-tell
